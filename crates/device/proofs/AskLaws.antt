-- What an ask and a commit return, from the checks, the words and the arrays of the code.
use Rattle.std.proofs.Common.{Option, Some, Result, Ok, Err}
use Prim.Native.Nat.{ℕ, ◌≤◌}
use mathlib.Core.Path.{◌≡◌, refl, sym, ap, ◌∙◌}
use mathlib.Core.Bool.{Bool, true, false, cond, ◌&&◌}
use mathlib.Core.List.{List, [], ◌∷◌}
use borrow.Author.Tests.{eq-eqb, ne_eqb}
use Rattle.laws.proofs.Tests.{and-true}
use lib.Dec.{leb, eqb}
use lib.Pointwise.{pointwise}
use lib.ListN.{length, take}
use lib.Seq.{length-take-le}
use Rattle.answer.specs.declared.Answer.{Answer}
use Rattle.answer.specs.declared.Answer.TheVariants as answer
use Rattle.answer.specs.Check.{Check, Pass, Refuse, check_of, CheckedAs}
use Rattle.context_block.specs.Flags.{flags_of}
use Rattle.descriptor_list.specs.declared.EndpointWords.{EndpointWords}
use Rattle.descriptor_list.specs.Lookup.{find_endpoints}
use native.Mathlib.Omega.{arith}
use Rattle.record_ring.specs.Store.{sorted, lowest, free_rings}
use Rattle.record_ring.proofs.Sorted.{length_sorted}
use Rattle.record_endpoint.specs.Endpoint.{padded}
use Rattle.record_settings.specs.Held.{is_held, is_found, alternate_of, setting_words}
use Rattle.record_settings.specs.Match.{addresses_free}
use Rattle.record_settings.proofs.Laws.{setting_length}
use Rattle.record_checks.specs.Draw.{same_rings}
use Rattle.device.specs.declared.record.Device.{Device}
use Rattle.device.specs.declared.ask.Preview.{Preview}
use Rattle.device.specs.Device.{list_of, endpoint_map_in, held_of, given_of, free_of}
use Rattle.device.specs.Sound.{sound}
use Rattle.device.specs.Check.{record_check}
use Rattle.device.specs.Claim.{claim_check, drawn, claim_in}
use Rattle.device.specs.Ask.{Ask, asking, no_ask, ask_of, ask_check, returned, ask, same_ask, current_check, PreviewAs}
use Rattle.device.proofs.Facts.{sound_facts}
use Rattle.device.proofs.Kept.{claim_passed}
use Rattle.device.proofs.Laws.{Passed, and_then, then_if, check_then, passed}
use Rattle.device.proofs.Updates.{take_padded}

-- The checks of a claim, and then what follows.
module _ (d : Device) (ctx routes log i a : ℕ) where
  claim_then : (next : Check) → claim_check d i a next ≡ and_then (claim_check d i a Pass) next
  unfolding claim_check and_then
  claim_then next =
      then_if (is_found (find_endpoints (list_of d) i a)) _ _ answer.NotFound next
      (then_if (addresses_free (setting_words (list_of d) i a) i (endpoint_map_in d)) _ _ answer.InvalidParameter next
      (then_if (leb (length (setting_words (list_of d) i a)) (length (free_of d))) _ _ answer.TooFewRings next refl))

  then_twice : (x y next : Check) → and_then x (and_then y next) ≡ and_then (and_then x y) next
  unfolding and_then
  then_twice (Ok _) y next = refl
  then_twice (Err z) y next = refl

  pub ask_then : (next : Check) → ask_check d ctx routes log i a next ≡ and_then (ask_check d ctx routes log i a Pass) next
  unfolding ask_check
  ask_then next =
      check_then d ctx routes log (claim_check d i a next)
      ∙ ap (and_then (record_check d ctx routes log Pass)) (claim_then next)
      ∙ then_twice (record_check d ctx routes log Pass) (claim_check d i a Pass) next
      ∙ ap (λ x. and_then x next) (sym (check_then d ctx routes log (claim_check d i a Pass)))

  -- refused alike, whatever follows
  module _ (x next : Check) (k : x ≡ ask_check d ctx routes log i a Pass) where
    pub ask_refused : (z : Answer) → x ≡ Refuse z → x ≡ ask_check d ctx routes log i a next
    unfolding and_then
    ask_refused z p = p ∙ sym (ask_then next ∙ rw (← k, p))

    pub ask_passed : x ≡ Pass → next ≡ ask_check d ctx routes log i a next
    unfolding and_then
    ask_passed p = sym (ask_then next ∙ rw (← k, p))

-- The last check of a commit.
module _ (d : Device) (p : Ask) (b : Bool) (e : b ≡ same_ask p (ask_of d p.interface p.alternate)) where
  pub outdated : b ≡ false → Refuse answer.OutdatedAsk ≡ current_check d p
  unfolding current_check
  outdated h = sym (rw (← e, h))

  pub current : b ≡ true → Pass ≡ current_check d p
  unfolding current_check
  current h = sym (rw (← e, h))

-- Rings that are the same as the library compares them.
pub same_pointwise : (rs ss : List ℕ) → pointwise eqb rs ss ≡ same_rings rs ss
unfolding same_rings
same_pointwise [] [] = refl
same_pointwise [] (s ∷ ss) = refl
same_pointwise (r ∷ rs) [] = refl
same_pointwise (r ∷ rs) (s ∷ ss) = ap (λ b. eqb r s && b) (same_pointwise rs ss)

-- What the code's comparison says, from what its ask handed back.
module _ (i a drops adds : ℕ) (rings : List ℕ) (r : Preview) (x : Answer) (q : Ask) (s : PreviewAs r (x, q)) where
  abbrev given : Ask
  given = asking i a drops adds rings

  drops_as : r.drops ≡ q.drops
  drops_as = ap (λ (y : Answer × Ask). y.1.drops) s.told

  adds_as : r.adds ≡ q.adds
  adds_as = ap (λ (y : Answer × Ask). y.1.adds) s.told

  rings_as : take r.count r.rings ≡ q.rings
  rings_as = ap (λ (y : Answer × Ask). y.1.rings) s.told

  pub other_drops : (drops ≡ r.drops → ⊥) → false ≡ same_ask given q
  unfolding same_ask
  other_drops n = sym (rw (← drops_as, ne_eqb drops r.drops n))

  pub other_adds : drops ≡ r.drops → (adds ≡ r.adds → ⊥) → false ≡ same_ask given q
  unfolding same_ask
  other_adds e n = sym (rw (← drops_as, ← adds_as, eq-eqb drops r.drops e, ne_eqb adds r.adds n))

  pub same_flags : drops ≡ r.drops → adds ≡ r.adds → (b : Bool) → b ≡ same_rings rings (take r.count r.rings) → b ≡ same_ask given q
  unfolding same_ask
  same_flags e f b h = h ∙ sym (rw (← drops_as, ← adds_as, ← rings_as, eq-eqb drops r.drops e, eq-eqb adds r.adds f))

-- What an accepted ask returns, in the code's words and array.
module _ (d : Device) (i a : ℕ) (is_sound : sound d ≡ true) (pass : claim_check d i a Pass ≡ Pass) where
  pub drawn_many : length (drawn d i a) ≡ length (setting_words (list_of d) i a)
  unfolding drawn lowest
  drawn_many =
      length-take-le (length (setting_words (list_of d) i a)) (sorted (free_of d))
      (rw (length_sorted (free_of d)) (claim_passed d i a is_sound pass).enough)

  pub words_few : length (setting_words (list_of d) i a) ≤ 30
  words_few = setting_length (list_of d) (sound_facts d is_sound).list i a

  pub preview_made :
      (old new front live : List ℕ) → free_of d ≡ free_rings (given_of d) live d.control [] →
      old ≡ cond (is_held i (held_of d)) (setting_words (list_of d) i (alternate_of i (held_of d))) [] → new ≡ setting_words (list_of d) i a →
      front ≡ padded 30 0 (lowest (length new) (free_rings (given_of d) live d.control [])) →
      (drops adds : ℕ) → drops ≡ flags_of old → adds ≡ flags_of new →
      PreviewAs (record { answer = answer.Accepted; interface = i; alternate = a; drops = drops; adds = adds; rings = front; count = length new })
      (answer.Accepted, ask_of d i a)
  unfolding ask_of claim_in drawn
  preview_made old new front live free eo en ef drops adds ed ea =
      let l : front ≡ padded 30 0 (drawn d i a) = ef ∙ rw (← free, en) refl in
      let n : length new ≡ length (drawn d i a) = ap length en ∙ sym drawn_many in
      let t : take (length new) front ≡ drawn d i a = rw (l, n) (take_padded 30 0 (drawn d i a)) in
      record {
        told = rw (t, ed, ea, eo, en);
        room = rw en words_few;
      }

-- The code's check has passed, or refused.
module _ (d : Device) (ctx routes log i a : ℕ) where
  pub asked : ask_check d ctx routes log i a Pass ≡ Pass → Passed d ctx routes log × (claim_check d i a Pass ≡ Pass)
  unfolding ask_check
  asked e = passed d ctx routes log (claim_check d i a Pass) e

  pub ready_to_show : ask_check d ctx routes log i a Pass ≡ Pass → ((d.usable && sound d) ≡ true) × (claim_check d i a Pass ≡ Pass)
  ready_to_show e = let p = asked e in (and-true d.usable (sound d) p.0.usable p.0.is_sound, p.1)

  pub shown : (r : Preview) → ask_check d ctx routes log i a Pass ≡ Pass → PreviewAs r (answer.Accepted, ask_of d i a) →
      PreviewAs r (ask d ctx routes log i a)
  unfolding ask returned
  shown r e s = rw e s

  pub not_shown : (r : Preview) (z : Answer) → ask_check d ctx routes log i a Pass ≡ Refuse z → PreviewAs r (z, no_ask) →
      PreviewAs r (ask d ctx routes log i a)
  unfolding ask returned
  not_shown r z e s = rw e s

-- The checks of a commit, from those of a claim and the comparison.
module _ (d : Device) (ctx routes log : ℕ) (p : Ask) (found : Option EndpointWords) where
  abbrev claims : Result EndpointWords Answer → Type 0
  claims r = CheckedAs r (ask_check d ctx routes log p.interface p.alternate Pass) found

  abbrev commits : Result EndpointWords Answer → Type 0
  commits r = CheckedAs r (ask_check d ctx routes log p.interface p.alternate (current_check d p)) found

  pub commit_refused : (z : Answer) → claims (Err z) → commits (Err z)
  unfolding check_of
  commit_refused z e = record { check = ask_refused d ctx routes log p.interface p.alternate (Refuse z) _ e.check z refl; value = e.value }

  module _ (words : EndpointWords) (e : claims (Ok words)) (b : Bool) (same : b ≡ same_ask p (ask_of d p.interface p.alternate)) where
    last_as : current_check d p ≡ ask_check d ctx routes log p.interface p.alternate (current_check d p)
    unfolding check_of
    last_as = ask_passed d ctx routes log p.interface p.alternate Pass _ e.check refl

    pub commit_outdated : b ≡ false → commits (Err answer.OutdatedAsk)
    unfolding check_of
    commit_outdated h =
        record { check = outdated d p b same h ∙ last_as; value = λ w q. let z : ◌≡◌ {A = ℕ} 0 1 = cc in absurd (omega arith) }

    pub commit_current : b ≡ true → commits (Ok words)
    unfolding check_of
    commit_current h = record { check = current d p b same h ∙ last_as; value = e.value }

-- What a claim goes on from: the checks of a claim, whatever followed them.
pub passed_first : (d : Device) (ctx routes log i a : ℕ) (next : Check) → ask_check d ctx routes log i a next ≡ Pass → ask_check d ctx routes log i a Pass ≡ Pass
unfolding and_then
passed_first d ctx routes log i a next e = then_passed _ next (sym (ask_then d ctx routes log i a next) ∙ e)
  where
    then_passed : (x y : Check) → and_then x y ≡ Pass → x ≡ Pass
    then_passed (Ok _) y h = refl
    then_passed (Err z) y h = cc

pub ready : (d : Device) (ctx routes log i a : ℕ) (next : Check) (r : Result EndpointWords Answer) →
    CheckedAs r (ask_check d ctx routes log i a next) (find_endpoints (list_of d) i a) → (words : EndpointWords) → r ≡ Ok words →
    (ask_check d ctx routes log i a Pass ≡ Pass) × (find_endpoints (list_of d) i a ≡ Some words)
unfolding check_of
ready d ctx routes log i a next r e words h = (passed_first d ctx routes log i a next (sym e.check ∙ rw h), e.value words h)
