-- What an accepted ask returns are the rings that its commit routes.
use Prim.Native.Nat.{ℕ}
use mathlib.Core.Path.{◌≡◌, sym, ap, ◌∙◌}
use mathlib.Core.Logic.{inl, inr}
use mathlib.Core.Bool.{true}
use mathlib.Core.List.{List, []}
use lib.ListN.{length, get_or}
use Rattle.laws.specs.Distinct.{elem}
use Rattle.laws.proofs.Cases.{false_if, or_right}
use Rattle.laws.proofs.Tests.{not_both}
use Rattle.laws.proofs.Distinct.{elem_at, elem_place}
use Rattle.answer.specs.declared.Answer.{Answer}
use Rattle.answer.specs.declared.Answer.TheVariants as answer
use Rattle.answer.specs.Check.{Pass}
use Rattle.answer.specs.Answer.{number}
use Rattle.context.specs.Steps.{word_dcis}
use Rattle.transfer.specs.Routes.{route_index, route_of, queues}
use Rattle.record_ring.specs.Store.{lowest}
use Rattle.record_ring.proofs.Promises.{lowest_promise}
use Rattle.record_settings.specs.Held.{setting_words}
use Rattle.device.specs.declared.record.Device.{Device}
use Rattle.device.specs.Device.{words_of, list_of, free_of}
use Rattle.device.specs.Sound.{sound}
use Rattle.device.specs.Check.{record_check}
use Rattle.device.specs.Claim.{claim_check, drawn}
use Rattle.device.specs.Ask.{Ask, ask_of, ask_check, returned, ask, commit}
use Rattle.device.proofs.Kept.{claim_passed}
use Rattle.device.proofs.Laws.{passed}
use Rattle.theorem_slot.specs.Call.{Buffers}
use Rattle.theorem_slot.specs.Groups.{drawn_from, keeps, claimed_groups}
use Rattle.theorem_slot.specs.Plain.{claimed_setting, setting_of, effect_of, groups_after, anew, seen, observed}
use Rattle.theorem_slot.specs.Theorem.{State, called}
use Rattle.theorem_slot.proofs.Good.{Live, Stands, live_here}
use Rattle.theorem_slot.proofs.Parted.{drawn_free}
use Rattle.theorem_slot.proofs.Record.{draws_same}
use Rattle.theorem_slot.proofs.Rings.{so_far}
use Rattle.theorem_ask.proofs.Promises.{ask_promise}
use Rattle.theorem_checks.specs.Descriptors.{Listed}
use Rattle.theorem_checks.specs.Record.{list_in}
use Rattle.theorem_checks.specs.Checks.{AllHold, fit_conditions, claim_conditions}
use Rattle.theorem_checks.proofs.Checks.{claim_judged, ask_pass, ask_passes, free_is, is_free, free_distinct}
use Rattle.theorem_checks.proofs.Descriptors.{lookup_tells, word_dci_is, no_dci}
use Rattle.theorem_accepting.specs.Accepting.{Routed, AllDone}
use Rattle.theorem_accepting.specs.Asks.{LowestFree, RoutesAsked, AskRings, GroupsAsked, AskGroups}
use Rattle.theorem_accepting.proofs.Accepting.{claim_accepts}
use Rattle.command.specs.Command.{LOG-ROOM}

module _ (d : Device) (ctx routes log o : List ℕ) (i a : ℕ) (accepted : (ask d (length ctx) (length routes) (length log) i a).0 ≡ answer.Accepted) where
  holds : AllHold (fit_conditions d.usable d (length ctx) (length routes) (length log) (claim_conditions d i a []))
  holds = (ask_passes d (length ctx) (length routes) (length log) i a).passed accepted

  pass : record_check d (length ctx) (length routes) (length log) (claim_check d i a Pass) ≡ Pass
  pass = (claim_judged d (length ctx) (length routes) (length log) i a).passed holds

  abbrev words : List ℕ
  words = setting_words (list_of d) i a

  asked_rings : (ask d (length ctx) (length routes) (length log) i a).1.rings ≡ drawn d i a
  unfolding ask ask_check returned ask_of
  asked_rings = rw pass

  facts : (sound d ≡ true) × (claim_check d i a Pass ≡ Pass)
  facts = let t = passed d (length ctx) (length routes) (length log) (claim_check d i a Pass) pass in (t.0.is_sound, t.1)

  lowest_free : LowestFree d (length words) (drawn d i a)
  unfolding drawn
  lowest_free =
      let n = length words in
      let free = free_of d in
      let p = lowest_promise n free (free_distinct d facts.0) in
      let c = claim_passed d i a facts.0 facts.1 in
      record {
        counted = p.counted c.enough;
        free = λ j h. free_is d (get_or (lowest n free) j 0) (p.of_them _ (elem_at (lowest n free) j h));
        rise = λ j k h l. p.rise j k h l;
        lowest = λ x f out j h.
            p.left_out (get_or (lowest n free) j 0) x (elem_at (lowest n free) j h) (is_free d x f)
            (false_if (elem x (lowest n free)) (λ e. let t = elem_place x (lowest n free) e in out t.0 t.1 t.2));
      }

  listed : Listed (list_in d) i a words
  unfolding list_of words_of
  listed = (lookup_tells (list_of d) i a).found (claim_passed d i a facts.0 facts.1).found

  commit_routes : Routed d routes → AllDone o LOG-ROOM →
      RoutesAsked d words (drawn d i a) (commit d ctx routes log o (ask d (length ctx) (length routes) (length log) i a).1)
  unfolding route_of route_index
  commit_routes r done =
      let c = claim_accepts d ctx routes log o i a (record { holds = holds; routed = r; done = done }) in
      rw ((ask_promise d ctx routes log o i a).accepted accepted)
      (record {
        accepted = c.accepted;
        routes = λ xs ys w e none.
            rw (word_dci_is w) at ((c.routes xs ys w e (no_dci w ys none)).0);
      })

pub ask_rings : AskRings
ask_rings d ctx routes log o i a accepted =
    record {
      words = words d ctx routes log o i a accepted;
      listed = listed d ctx routes log o i a accepted;
      lowest = rw (asked_rings d ctx routes log o i a accepted) (lowest_free d ctx routes log o i a accepted);
      routed = λ r done. rw (asked_rings d ctx routes log o i a accepted) (commit_routes d ctx routes log o i a accepted r done);
    }

-- In the plain slot's groups.
module _ (s : State) (l : Buffers) (routes : List ℕ) (i a : ℕ) (accepted : (ask s.device (length l.ctx) (length routes) (length l.log) i a).0 ≡ answer.Accepted) where
  abbrev p : Ask
  p = (ask s.device (length l.ctx) (length routes) (length l.log) i a).1

  now : p ≡ ask_of s.device i a
  unfolding ask_check
  now =
      ap (λ (r : Answer × Ask). r.1)
      (ask_pass s.device (length l.ctx) (length routes) (length l.log) i a (pass s.device l.ctx routes l.log [] i a accepted))

  groups_asked : (slot : ℕ) → Live slot s.device s.plain → GroupsAsked s l routes (ask_of s.device i a)
  unfolding ask_of called effect_of observed anew seen groups_after claimed_setting claimed_groups setting_of number
  groups_asked slot v =
      let n = length (setting_words s.plain.list i a) in
      let same : drawn_from s.plain.groups n ≡ drawn s.device i a =
      ap (λ x. drawn_from s.plain.groups (length (setting_words x i a))) (sym v.list) ∙ draws_same s.device v.is_sound s.plain.groups v.groups i a in
      record {
        drawn = sym same;
        free = λ x e. (drawn_free s.plain.groups n x (ap (elem x) same ∙ e)).0;
        live = λ e x k. rw (e, same) (or_right _ (keeps x (queues (word_dcis (setting_words s.plain.list i a)) (drawn s.device i a))) k);
      }

  groups_now : (slot : ℕ) → Live slot s.device s.plain → GroupsAsked s l routes p
  groups_now slot v = rw now (groups_asked slot v)

pub ask_groups : AskGroups
ask_groups =
    so_far
    (λ slot s.
    (i a : ℕ) (l : Buffers) (routes : List ℕ) → (ask s.device (length l.ctx) (length routes) (length l.log) i a).0 ≡ answer.Accepted →
    GroupsAsked s l routes (ask s.device (length l.ctx) (length routes) (length l.log) i a).1)
    (λ slot before s t i a l routes accepted. go slot before s i a l routes accepted (usable s i a l routes accepted) t)
  where
    usable : (s : State) (i a : ℕ) (l : Buffers) (routes : List ℕ) → (ask s.device (length l.ctx) (length routes) (length l.log) i a).0 ≡ answer.Accepted → s.device.usable ≡ true
    usable s i a l routes accepted = (passed _ _ _ _ _ (pass s.device l.ctx routes l.log [] i a accepted)).0.usable

    go : (slot : ℕ) (before : List ℕ) (s : State) (i a : ℕ) (l : Buffers) (routes : List ℕ) →
        (ask s.device (length l.ctx) (length routes) (length l.log) i a).0 ≡ answer.Accepted → s.device.usable ≡ true → Stands slot before s →
        GroupsAsked s l routes (ask s.device (length l.ctx) (length routes) (length l.log) i a).1
    go slot before s i a l routes accepted u (inl g) = groups_now s l routes i a accepted slot (live_here slot before s g u)
    go slot before s i a l routes accepted u (inr (inl g)) = not_both s.device.usable u g.down.0
    go slot before s i a l routes accepted u (inr (inr g)) = not_both s.device.usable u g.down.0
