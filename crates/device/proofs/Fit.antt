-- What a sound record gives to the promises on contexts: words of endpoints, alternates that are bytes, rings that fit.
use Prim.Native.Nat.{ℕ, zero, suc, ◌+◌, ◌^◌, ◌<◌, ◌≤◌}
use mathlib.Core.Path.{◌≡◌, refl, sym, ◌∙◌}
use mathlib.Core.Bool.{Bool, true, false, cond}
use mathlib.Core.List.{List, [], ◌∷◌, ◌++◌}
use mathlib.Core.Logic.{inl, inr, ⊎_elim}
use native.Mathlib.Nat.{mod-lt}
use native.Mathlib.Decide.{dec_lt}
use native.Mathlib.Omega.{arith}
use borrow.Author.Tests.{eqb-true}
use lib.Dec.{eqb}
use lib.ListN.{length, get_or, drop, get_or-eq_default}
use Rattle.laws.proofs.Tests.{and_right, not_both}
use Rattle.laws.proofs.Cases.{Decided, decided, or_cases}
use Rattle.descriptor.specs.Word.{alternate_setting}
use Rattle.descriptor.proofs.Laws.{endpoint_word_lem, dci_word}
use Rattle.descriptor_list.specs.Lookup.{find_endpoints, is_alternate, of_interface}
use Rattle.descriptor_list.specs.Valid.{valid_list}
use Rattle.descriptor_list.proofs.Laws.{found_alternate}
use Rattle.transfer.specs.Routes.{Queue, queues, ring_for}
use Rattle.context_block.specs.Blocks.{word_dci, some_dci}
use Rattle.context.specs.Steps.{add_writes, add_all, word_dcis}
use Rattle.context.specs.Promises.{Endpoints, ConfigureReads}
use Rattle.context.proofs.Control.{word_dci_small}
use Rattle.record_endpoint.specs.declared.endpoint_map.EndpointMap.{EndpointMap}
use Rattle.record_endpoint.specs.declared.endpoint_map.Owner.{Owner}
use Rattle.record_endpoint.specs.Order.{dci_at}
use Rattle.record_endpoint.specs.EndpointMap.{gathered, is_owned, owned_rings, queues_of, pending_rings}
use Rattle.record_endpoint.proofs.Laws.{queues_ring, owned_at, owned_length, pending_length}
use Rattle.record_settings.specs.Held.{Held, is_held, alternate_of, setting_words, held_words, settings_sound}
use Rattle.record_settings.proofs.Laws.{setting_word, held_found, sound_found, found_at, alternate_none}
use Rattle.theorem_routing.proofs.Laws.{EndpointWords, each_dci, words_ring}

-- Words of endpoints.
unfoldable pub Placed : List ℕ → Type 0
Placed [] = Unit {0}
Placed (w ∷ ws) = (2 ≤ word_dci w) × Placed ws

placed_of : (ws : List ℕ) → EndpointWords ws → Placed ws
unfolding Placed word_dci
placed_of [] h = tt
placed_of (w ∷ ws) h =
    let t = h 0 (omega arith) in
    (omega (arith, dci_word w, (endpoint_word_lem w t.0 t.1).number), placed_of ws (λ k l. h (suc k) (omega arith)))

placed_append : (x y : List ℕ) → Placed x → Placed y → Placed (x ++ y)
unfolding Placed
placed_append [] y p q = q
placed_append (w ∷ ws) y p q = (p.0, placed_append ws y p.1 q)

module _ (list : List ℕ) (v : valid_list list ≡ true) where
  -- those of a setting
  pub placed_setting : (i a : ℕ) → Placed (setting_words list i a)
  placed_setting i a = placed_of (setting_words list i a) (setting_word list v i a)

  -- of one that may be held
  pub placed_if : (b : Bool) (i a : ℕ) → Placed (cond b (setting_words list i a) [])
  unfolding Placed
  placed_if true i a = placed_setting i a
  placed_if false i a = tt

  -- of all that are
  pub placed_held : (hs : List Held) → Placed (held_words list hs)
  unfolding held_words Placed
  placed_held [] = tt
  placed_held (h ∷ hs) =
      placed_append (setting_words list h.interface h.alternate) (held_words list hs) (placed_setting h.interface h.alternate) (placed_held hs)

-- They are endpoints of a Configure.
pub placed_endpoints : (ws : List ℕ) → Placed ws → Endpoints ws
unfolding Placed some_dci
placed_endpoints [] p d e = not_both false e refl
placed_endpoints (w ∷ ws) p d e =
    ⊎_elim (λ s. rw (← eqb-true (word_dci w) d s) p.0) (λ s. placed_endpoints ws p.1 d s)
    (or_cases (eqb (word_dci w) d) (some_dci d ws) e)

-- The alternate that an interface holds is a byte.
alternate_below : (w : ℕ) → alternate_setting w < 2 ^ 8
unfolding alternate_setting
alternate_below w = mod-lt _ (omega arith)

alternate_is : (i a w : ℕ) → is_alternate i a w ≡ true → alternate_setting w ≡ a
unfolding is_alternate
alternate_is i a w e = eqb-true (alternate_setting w) a (and_right (of_interface i w) _ e)

pub alternate_byte : (list : List ℕ) (hs : List Held) → settings_sound list hs ≡ true → (i : ℕ) → alternate_of i hs < 2 ^ 8
alternate_byte list hs s i = go (decided (is_held i hs))
  where
    go : Decided (is_held i hs) → alternate_of i hs < 2 ^ 8
    go (inl h) =
        let a = alternate_of i hs in
        let t = found_at (find_endpoints list i a) (held_found list hs (sound_found list hs s) i h) in
        rw (← alternate_is i a _ (found_alternate list i a t.0 t.1)) (alternate_below _)
    go (inr h) = rw (alternate_none i hs h) (omega arith)

-- Rings of 64 bits, as queues.
pub queues_below : (b d : ℕ) (ds rings : List ℕ) (x : ℕ) → x < b → ((k : ℕ) → get_or rings k 0 < b) → ring_for d (queues ds rings) x < b
unfolding queues ring_for
queues_below b d [] rings x l h = l
queues_below b d (e ∷ ds) rings x l h =
    queues_below b d ds (drop 1 rings) _ (go (eqb e d)) (λ k. rw (second rings k) (h (suc k)))
  where
    second : (rs : List ℕ) (k : ℕ) → get_or (drop 1 rs) k 0 ≡ get_or rs (suc k) 0
    second [] k = refl
    second (r ∷ rs) k = refl

    go : (t : Bool) → cond t (get_or rings 0 0) x < b
    go true = h 0
    go false = l

gathered_below : (b d : ℕ) (rings : List ℕ) → ((k : ℕ) → get_or rings k 0 < b) → (k a x : ℕ) → x < b →
    ring_for d (gathered (λ p. record { dci = dci_at p; ring = get_or rings p 0 }) rings k a) x < b
unfolding gathered ring_for
gathered_below b d rings h zero a x l = l
gathered_below b d rings h (suc k) a x l =
    go (eqb (get_or rings a 0) 0) (λ y m. gathered_below b d rings h k (a + 1) y m)
  where
    at : ℕ → Queue
    at p = record { dci = dci_at p; ring = get_or rings p 0 }

    mine : (t : Bool) → cond t (get_or rings a 0) x < b
    mine true = h a
    mine false = l

    go : (t : Bool) → ((y : ℕ) → y < b → ring_for d (gathered at rings k (a + 1)) y < b) →
        ring_for d (cond t (gathered at rings k (a + 1)) (at a ∷ gathered at rings k (a + 1))) x < b
    go true f = f x l
    go false f = f _ (mine (eqb (dci_at a) d))

pub queues_of_below : (b d : ℕ) (rings : List ℕ) → 0 < b → ((k : ℕ) → get_or rings k 0 < b) → ring_for d (queues_of rings) 0 < b
unfolding queues_of
queues_of_below b d rings l h = gathered_below b d rings h 30 0 0 l

-- The rings drawn for words, by place or word by word: the same where a Configure reads them.
ring_same : (ws rings : List ℕ) (d : ℕ) → 2 ≤ d → d < 32 → ring_for d (queues_of (pending_rings ws rings)) 0 ≡ ring_for d (queues (word_dcis ws) rings) 0
ring_same ws rings =
    each_dci (λ d. ring_for d (queues_of (pending_rings ws rings)) 0 ≡ ring_for d (queues (word_dcis ws) rings) 0)
    (λ p h. queues_ring (pending_rings ws rings) p 0 h ∙ go p h (decided (eqb (get_or (pending_rings ws rings) p 0) 0)))
  where
    go : (p : ℕ) → p < 30 → Decided (eqb (get_or (pending_rings ws rings) p 0) 0) →
        cond (eqb (get_or (pending_rings ws rings) p 0) 0) 0 (get_or (pending_rings ws rings) p 0) ≡ ring_for (dci_at p) (queues (word_dcis ws) rings) 0
    go p h (inl e) = rw e (sym (words_ring ws rings p h ∙ eqb-true _ 0 e))
    go p h (inr e) = rw e (sym (words_ring ws rings p h))

add_same : (speed : ℕ) (qs rs : List Queue) (ws : List ℕ) → Placed ws →
    ((d : ℕ) → 2 ≤ d → d < 32 → ring_for d qs 0 ≡ ring_for d rs 0) → add_all speed qs ws ≡ add_all speed rs ws
unfolding Placed add_all add_writes
add_same speed qs rs [] p h = refl
add_same speed qs rs (w ∷ ws) p h = rw (h (word_dci w) p.0 (word_dci_small w), add_same speed qs rs ws p.1 h)

placed_front : (xs ys : List ℕ) → Placed (xs ++ ys) → Placed xs
unfolding Placed
placed_front [] ys p = tt
placed_front (x ∷ xs) ys p = (p.0, placed_front xs ys p.1)

placed_at : (xs ys : List ℕ) (w : ℕ) → Placed (xs ++ (w ∷ ys)) → 2 ≤ word_dci w
unfolding Placed
placed_at [] ys w p = p.0
placed_at (x ∷ xs) ys w p = placed_at xs ys w p.1

pub offered_reads : (s speed i a : ℕ) (dropped added rings dcis was ctx : List ℕ) → Placed added →
    ConfigureReads s speed i a dropped added (queues_of (pending_rings added rings)) dcis was ctx →
    ConfigureReads s speed i a dropped added (queues (word_dcis added) rings) dcis was ctx
offered_reads s speed i a dropped added rings dcis was ctx p r =
    record {
      control = r.control;
      slot = r.slot;
      entries = r.entries;
      endpoint = λ xs ys w e n m. rw (← ring xs ys w e) (r.endpoint xs ys w e n m);
      last = λ xs ys w e m.
          rw (← add_same speed _ _ xs (placed_front xs (w ∷ ys) (rw e at p)) (ring_same added rings), ← ring xs ys w e) (r.last xs ys w e m);
      idle = r.idle;
      rest = r.rest;
    }
  where
    ring : (xs ys : List ℕ) (w : ℕ) → added ≡ xs ++ (w ∷ ys) →
        ring_for (word_dci w) (queues_of (pending_rings added rings)) 0 ≡ ring_for (word_dci w) (queues (word_dcis added) rings) 0
    ring xs ys w e = ring_same added rings (word_dci w) (placed_at xs ys w (rw e at p)) (word_dci_small w)

-- Those of an owner among a record's.
pub owned_below : (b d : ℕ) (who : Owner) (c : EndpointMap) → 0 < b → ((k : ℕ) → get_or c.rings k 0 < b) →
    ring_for d (queues_of (owned_rings who c)) 0 < b
owned_below b d who c l h = queues_of_below b d (owned_rings who c) l (λ k. go k (dec_lt k 30))
  where
    mine : (k : ℕ) (t : Bool) → cond t (get_or c.rings k 0) 0 < b
    mine k true = h k
    mine k false = l

    go : (k : ℕ) → Dec (k < 30) → get_or (owned_rings who c) k 0 < b
    go k (yes m) = rw (owned_at who c k m) (mine k (is_owned who c k))
    go k (no m) =
        let past : length (owned_rings who c) ≤ k = omega (arith, owned_length who c) in
        rw (get_or-eq_default (owned_rings who c) 0 past) l

-- Those drawn for words, by place.
pub pending_below : (b d : ℕ) (ws rings : List ℕ) → 0 < b → ((k : ℕ) → get_or rings k 0 < b) → ring_for d (queues_of (pending_rings ws rings)) 0 < b
pending_below b d ws rings l h = queues_of_below b d (pending_rings ws rings) l (λ k. go k (dec_lt k 30))
  where
    go : (k : ℕ) → Dec (k < 30) → get_or (pending_rings ws rings) k 0 < b
    go k (yes m) = rw (← words_ring ws rings k m) (queues_below b (dci_at k) (word_dcis ws) rings 0 l h)
    go k (no m) =
        let past : length (pending_rings ws rings) ≤ k = omega (arith, pending_length ws rings) in
        rw (get_or-eq_default (pending_rings ws rings) 0 past) l
