-- The reason of 9 is the first endpoint word that another interface owns.
use Prim.Native.Nat.{ℕ, zero, suc, ◌%◌, ◌^◌, ◌<◌}
use mathlib.Core.Path.{◌≡◌, refl, sym, ap, ◌∙◌}
use mathlib.Core.Logic.{◌⊎◌, inl, inr}
use mathlib.Core.Bool.{true, false}
use mathlib.Core.List.{List, [], ◌∷◌}
use native.Mathlib.Omega.{arith}
use borrow.Author.Tests.{eq-eqb}
use lib.Dec.{eqb}
use lib.ListN.{length, get_or, take}
use Rattle.laws.proofs.Tests.{not_both}
use Rattle.laws.proofs.Cases.{Decided, decided}
use Rattle.answer.specs.declared.Answer.{Answer}
use Rattle.answer.specs.declared.Answer.TheVariants as answer
use Rattle.answer.specs.Answer.{number}
use Rattle.record_endpoint.specs.declared.endpoint_map.EndpointMap.{EndpointMap}
use Rattle.record_settings.specs.Held.{setting_words}
use Rattle.record_settings.specs.Match.{address_free}
use Rattle.device.specs.declared.record.Device.{Device}
use Rattle.device.specs.Device.{list_of, endpoint_map_in}
use Rattle.device.specs.Left.{Left, refused}
use Rattle.device.specs.Sound.{sound}
use Rattle.device.specs.Claim.{claim}
use Rattle.device.specs.Ask.{Ask, commit}
use Rattle.theorem_slot.specs.Call.{Asked, claims, commits, Call, left}
use Rattle.theorem_slot.specs.Answers.{refused_record}
use Rattle.theorem_checks.specs.Checks.{Condition, asked, FirstFails, Gives, NoneOwned, IsListed, fit_conditions, claim_conditions, conditions}
use Rattle.theorem_checks.proofs.Checks.{listed_is, listed_words, word_place, word_free, word_owned, pass_exactly}
use Rattle.theorem_checks.proofs.Record.{sound_tells}
use Rattle.reason.specs.declared.Reason.{Reason}
use Rattle.reason.specs.declared.Reason.TheVariants as reason
use Rattle.reason.specs.Reason.{owner_of, first_owned}
use Rattle.theorem_why.specs.Why.{why_claim, why_commit}
use Rattle.theorem_why.specs.Promises.{told_of, OtherOwner, OwnerPromise}
use Rattle.theorem_why.proofs.Promises.{nine, reason_is}

-- The walk over endpoint words: it names the first that is not free, or all are.
record Names (ws : List ℕ) (i : ℕ) (c : EndpointMap) (x : Reason) : Type 0 where
  pub place : ℕ
  pub inside : place < length ws
  pub named : x ≡ reason.Endpoint (get_or ws place 0 % 2 ^ 32) (owner_of (get_or ws place 0) c)
  pub owned : address_free (get_or ws place 0) i c ≡ false
  pub before : (k : ℕ) → k < place → address_free (get_or ws k 0) i c ≡ true

abbrev AllFree : List ℕ → ℕ → EndpointMap → Type 0
AllFree ws i c = (k : ℕ) → k < length ws → address_free (get_or ws k 0) i c ≡ true

free_first : (w : ℕ) (ws : List ℕ) (i : ℕ) (c : EndpointMap) (m : ℕ) → address_free w i c ≡ true →
    ((k : ℕ) → k < m → address_free (get_or ws k 0) i c ≡ true) → (k : ℕ) → k < suc m → address_free (get_or (w ∷ ws) k 0) i c ≡ true
free_first w ws i c m z f zero h = z
free_first w ws i c m z f (suc k) h = f k (omega arith)

named_first : (ws : List ℕ) (i : ℕ) (c : EndpointMap) → Names ws i c (first_owned ws i c) ⊎ AllFree ws i c
unfolding first_owned
named_first [] i c = inr (λ k h. absurd (omega arith))
named_first (w ∷ ws) i c = go (decided (address_free w i c)) (named_first ws i c)
  where
    go : Decided (address_free w i c) → Names ws i c (first_owned ws i c) ⊎ AllFree ws i c →
        Names (w ∷ ws) i c (first_owned (w ∷ ws) i c) ⊎ AllFree (w ∷ ws) i c
    go (inr z) t = inl (record { place = 0; inside = omega arith; named = rw z; owned = z; before = λ k h. absurd (omega arith) })
    go (inl z) (inl n) =
        inl (record {
          place = suc n.place;
          inside = omega (arith, n.inside);
          named = rw z n.named;
          owned = n.owned;
          before = free_first w ws i c n.place z n.before;
        })
    go (inl z) (inr f) = inr (free_first w ws i c (length ws) z f)

module _ (d : Device) (i a : ℕ) (s : sound d ≡ true) (l : IsListed d i a) (some : NoneOwned d i a → ⊥) (why : Reason) where
  abbrev ws : List ℕ
  ws = setting_words (list_of d) i a

  none : AllFree ws i (endpoint_map_in d) → NoneOwned d i a
  none f words m k h j owner ring t =
      let same : ws ≡ words = (listed_is d i a words m).1 in
      word_free d i a s (get_or ws k 0) j owner ring (f k (rw same h)) (rw (← same) at t)

  named_owner : first_owned ws i (endpoint_map_in d) ≡ why → OtherOwner d i a why
  unfolding owner_of
  named_owner e = go (named_first ws i (endpoint_map_in d))
    where
      go : Names ws i (endpoint_map_in d) (first_owned ws i (endpoint_map_in d)) ⊎ AllFree ws i (endpoint_map_in d) → OtherOwner d i a why
      go (inr f) = absurd (some (none f))
      go (inl n) =
          let t = word_owned d i a s (get_or ws n.place 0) (word_place d i a s n.place n.inside) n.owned in
          record {
            words = ws;
            listed = listed_words d i a l;
            place = n.place;
            inside = n.inside;
            owner = owner_of (get_or ws n.place 0) (endpoint_map_in d);
            named = sym e ∙ n.named;
            other = t.other;
            at = t.at;
            ring = t.ring;
            there = t.there;
            first = λ k h j own r g. word_free d i a s (get_or ws k 0) j own r (n.before k h) g;
          }

-- What it says that 9 is the first condition that fails.
record Owned (d : Device) (i a : ℕ) : Type 0 where
  pub is_sound : sound d ≡ true
  pub listed : IsListed d i a
  pub some : NoneOwned d i a → ⊥

another : {P : Type 0} (x y : Answer) → eqb (number x) (number y) ≡ false → x ≡ y → P
another x y n e = not_both (eqb (number x) (number y)) (eq-eqb (number x) (number y) (ap number e)) n

module _ (d : Device) (ctx routes log i a : ℕ) (next : List Condition) (other : FirstFails next answer.InvalidParameter → ⊥) where
  nine_fails : FirstFails (fit_conditions d.usable d ctx routes log (claim_conditions d i a next)) answer.InvalidParameter → Owned d i a
  unfolding FirstFails number
  nine_fails (inl t) = another answer.Unusable answer.InvalidParameter refl t.1
  nine_fails (inr (f, inl t)) = another answer.ContextLength answer.InvalidParameter refl t.1
  nine_fails (inr (f, inr (c, inl t))) = another answer.RoutesLength answer.InvalidParameter refl t.1
  nine_fails (inr (f, inr (c, inr (r, inl t)))) = another answer.LogTooShort answer.InvalidParameter refl t.1
  nine_fails (inr (f, inr (c, inr (r, inr (g, inl t))))) = another answer.NotFound answer.InvalidParameter refl t.1
  nine_fails (inr (f, inr (c, inr (r, inr (g, inr (l, inl t)))))) =
      record { is_sound = (sound_tells d).1 f.is_sound; listed = l; some = t.0 }
  nine_fails (inr (f, inr (c, inr (r, inr (g, inr (l, inr (n, inl t))))))) = another answer.TooFewRings answer.InvalidParameter refl t.1
  nine_fails (inr (f, inr (c, inr (r, inr (g, inr (l, inr (n, inr (m, t)))))))) = absurd (other t)

module _ (d : Device) (ctx routes log o : List ℕ) (i a : ℕ) (why : Reason) where
  owner_told : Owned d i a → (l : Left) → l ≡ refused d answer.InvalidParameter ctx routes log → told_of l o i a ≡ why → OtherOwner d i a why
  unfolding refused
  owner_told w l e q =
      named_owner d i a w.is_sound w.listed w.some why
      (sym (nine d i a o why w.is_sound (take 0 log)) ∙ sym (ap (λ (x : Left). told_of x o i a) e) ∙ q)

module _ (d : Device) (ctx routes log o : List ℕ) where
  abbrev call : Asked → Call
  call asked = record { asked = asked; buffers = record { ctx = ctx; log = log; outcomes = o } }

  of_claim : (i a : ℕ) → (claim d ctx routes log o i a).answer ≡ answer.InvalidParameter → OtherOwner d i a (why_claim d ctx routes log o i a)
  unfolding left conditions refused_record Gives FirstFails
  of_claim i a e =
      let p = pass_exactly (call (claims i a)) d routes in
      let f = p.refused_by answer.InvalidParameter (inr (inr (inr (inr (inr (inl refl)))))) e in
      owner_told d ctx routes log o i a _ (nine_fails d (length ctx) (length routes) (length log) i a [] (λ t. t) f)
      (claim d ctx routes log o i a) (p.refuses answer.InvalidParameter f) ((reason_is d ctx routes log o).claim i a)

  outdated : (asks : Type 0) → FirstFails (asked asks answer.OutdatedAsk ∷ []) answer.InvalidParameter → ⊥
  unfolding FirstFails number
  outdated asks (inl t) = another answer.OutdatedAsk answer.InvalidParameter refl t.1
  outdated asks (inr t) = t.1

  of_commit : (p : Ask) → (commit d ctx routes log o p).answer ≡ answer.InvalidParameter →
      OtherOwner d p.interface p.alternate (why_commit d ctx routes log o p)
  unfolding left conditions refused_record Gives
  of_commit p e =
      let j = pass_exactly (call (commits p)) d routes in
      let f = j.refused_by answer.InvalidParameter (inr (inr (inr (inr (inr (inl refl)))))) e in
      owner_told d ctx routes log o p.interface p.alternate _
      (nine_fails d (length ctx) (length routes) (length log) p.interface p.alternate _ (outdated _) f)
      (commit d ctx routes log o p) (j.refuses answer.InvalidParameter f) ((reason_is d ctx routes log o).commit p)

pub owner : OwnerPromise
owner d ctx routes log o = record { claim = of_claim d ctx routes log o; commit = of_commit d ctx routes log o }
