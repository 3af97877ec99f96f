-- A choice keeps its promises.
use Rattle.std.specs.Prelude.{ℕ, ◌<◌, ◌≤◌, ◌≡◌, length, get_or, map}
use mathlib.Core.Path.{sym, ap, ◌∙◌}
use native.Mathlib.Omega.{arith}
use lib.ListN.{get_or-eq_default}
use Rattle.std.proofs.lemmas.List.{get_or-map, length-map}
use Rattle.laws.proofs.Tests.{not_both}
use Rattle.device.specs.Device.{list_of}
use Rattle.choice_list.specs.declared.chosen.Chosen.{Chosen}
use Rattle.choice_list.specs.Choice.{alternate_at}
use Rattle.choice_list.specs.Chosen.{chosen, no_choice}
use Rattle.choice.specs.Choose.{unusable, many_names, in_list}
use Rattle.choice.specs.Promises.{ChoicePromise}

other : {P : Type 0} (n m : ℕ) (r : Chosen) → r.answer ≡ n → (n ≡ m → ⊥) → r.answer ≡ m → P
other n m r e h f = absurd (h (sym e ∙ f))

pub keeps : ChoicePromise
keeps d names longest r (unusable e f) =
    record {
      unusable = ((λ q. e), (λ q. f.answer));
      many_names = ((λ q. other 12 29 r f.answer (λ x. omega arith) q), (λ q. not_both _ q.0 e));
      no_choice = ((λ q. other 12 30 r f.answer (λ x. omega arith) q), (λ q. not_both _ q.0 e));
      chosen = λ q. other 12 0 r f.answer (λ x. omega arith) q;
      repeated = λ q. other 12 0 r f.answer (λ x. omega arith) q;
      zeros = λ j h. f.none j;
      refused = λ q j. f.none j;
    }
keeps d names longest r (many_names e h f) =
    record {
      unusable = ((λ q. other 29 12 r f.answer (λ x. omega arith) q), (λ q. not_both _ e q));
      many_names = ((λ q. (e, h)), (λ q. f.answer));
      no_choice = ((λ q. other 29 30 r f.answer (λ x. omega arith) q), (λ q. absurd (omega (arith, h, q.1))));
      chosen = λ q. other 29 0 r f.answer (λ x. omega arith) q;
      repeated = λ q. other 29 0 r f.answer (λ x. omega arith) q;
      zeros = λ j h. f.none j;
      refused = λ q j. f.none j;
    }
keeps d names longest r (in_list e h (no_choice n f)) =
    record {
      unusable = ((λ q. other 30 12 r f.answer (λ x. omega arith) q), (λ q. not_both _ e q));
      many_names = ((λ q. other 30 29 r f.answer (λ x. omega arith) q), (λ q. absurd (omega (arith, h, q.1))));
      no_choice = ((λ q. (e, h, n)), (λ q. f.answer));
      chosen = λ q. other 30 0 r f.answer (λ x. omega arith) q;
      repeated = λ q. other 30 0 r f.answer (λ x. omega arith) q;
      zeros = λ j h. f.none j;
      refused = λ q j. f.none j;
    }
keeps d names longest r (in_list e h (chosen places first a f)) =
    record {
      unusable = ((λ q. other 0 12 r a (λ x. omega arith) q), (λ q. not_both _ e q));
      many_names = ((λ q. other 0 29 r a (λ x. omega arith) q), (λ q. absurd (omega (arith, h, q.1))));
      no_choice = ((λ q. other 0 30 r a (λ x. omega arith) q), (λ q. absurd (q.2 places first.choice)));
      chosen = λ q. record { places = places; first = first; alternates = alternates };
      repeated = λ q j k l m s. alternates j l ∙ ap (alternate_at (list_of d)) (first.choice.one j k l m s) ∙ sym (alternates k m);
      zeros = λ j l. f j ∙ past j l;
      refused = λ q. absurd (q a);
    }
  where
    alternates : (j : ℕ) → j < length names → get_or r.alternates j 0 ≡ alternate_at (list_of d) (get_or places j 0)
    alternates j l = f j ∙ get_or-map (alternate_at (list_of d)) places j 0 0 (rw first.choice.long l)

    past : (j : ℕ) → length names ≤ j → get_or (map (alternate_at (list_of d)) places) j 0 ≡ 0
    past j l = get_or-eq_default (map (alternate_at (list_of d)) places) 0 (rw (length-map places (alternate_at (list_of d)), first.choice.long) l)
