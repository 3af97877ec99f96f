-- What an accepted ask returns are the rings that its commit routes.
use Rattle.std.specs.Prelude.{ℕ, ◌+◌, ◌*◌, ◌<◌, ◌≡◌, true, false, List, ◌∷◌, ◌++◌, length, get_or}
use Rattle.laws.specs.Distinct.{elem}
use Rattle.answer.specs.declared.Answer.TheVariants as answer
use Rattle.command.specs.Command.{LOG-ROOM}
use Rattle.context.specs.Steps.{word_dcis}
use Rattle.transfer.specs.Routes.{queues}
use Rattle.record_settings.specs.Held.{setting_words}
use Rattle.device.specs.declared.record.Device.{Device}
use Rattle.device.specs.Left.{Left}
use Rattle.device.specs.Ask.{Ask, ask, commit}
use Rattle.theorem_slot.specs.Call.{Buffers, commits, left}
use Rattle.theorem_slot.specs.Groups.{drawn_from, keeps}
use Rattle.theorem_slot.specs.Rings.{AfterAddress}
use Rattle.theorem_slot.specs.Theorem.{State, Turn, called}
use Rattle.theorem_checks.specs.Descriptors.{dci_of_word, Each, Listed}
use Rattle.theorem_checks.specs.Record.{list_in, IsFree}
use Rattle.theorem_accepting.specs.Accepting.{Routed, AllDone, Accepted}

-- Rings by rising address, as many as words, each free, and each below every free ring that is not among them.
pub record LowestFree (d : Device) (n : ℕ) (rings : List ℕ) : Type 0 where
  pub counted : length rings ≡ n
  pub free : Each (IsFree d) rings
  pub rise : (j k : ℕ) → j < k → k < length rings → get_or rings j 0 < get_or rings k 0
  pub lowest :
      (x : ℕ) → IsFree d x → ((j : ℕ) → j < length rings → get_or rings j 0 ≡ x → ⊥) → (j : ℕ) → j < length rings → get_or rings j 0 < x

-- Each word's Dci is routed to the ring at its place; of several words of a Dci, the last counts.
pub record RoutesAsked (d : Device) (words rings : List ℕ) (l : Left) : Type 0 where
  pub accepted : Accepted d l
  pub routes :
      (xs ys : List ℕ) (w : ℕ) → words ≡ xs ++ (w ∷ ys) →
      ((j : ℕ) → j < length ys → dci_of_word (get_or ys j 0) ≡ dci_of_word w → ⊥) →
      get_or l.routes (32 * d.slot.0 + dci_of_word w) 0 ≡ get_or rings (length xs) 0

pub record RingsAsked (d : Device) (ctx routes log outcomes : List ℕ) (interface alternate : ℕ) (rings : List ℕ) (l : Left) : Type 0 where
  pub words : List ℕ
  pub listed : Listed (list_in d) interface alternate words
  pub lowest : LowestFree d (length words) rings
  pub routed : Routed d routes → AllDone outcomes LOG-ROOM → RoutesAsked d words rings l

-- An accepted ask returns the lowest free rings, one for each word of the alternate; the commit of it, lent the same table, with every
-- outcome done, is accepted and routes them.
abbrev pub AskRings : Type 0
AskRings =
    (d : Device) (ctx routes log outcomes : List ℕ) (interface alternate : ℕ) →
    let r = ask d (length ctx) (length routes) (length log) interface alternate in
    r.0 ≡ answer.Accepted →
    RingsAsked d ctx routes log outcomes interface alternate r.1.rings (commit d ctx routes log outcomes r.1)

-- After a list of calls, with any table: the ask's rings are those that the plain slot draws for the alternate, each in its free group;
-- and once the commit is accepted, those that an endpoint keeps are in its live group.
abbrev pub commits_now : Buffers → List ℕ → Ask → Turn
commits_now l routes p = record { call = record { asked = commits p; buffers = l }; table = routes; keeps = false }

pub record GroupsAsked (s : State) (l : Buffers) (routes : List ℕ) (p : Ask) : Type 0 where
  pub drawn : p.rings ≡ drawn_from s.plain.groups (length (setting_words s.plain.list p.interface p.alternate))
  pub free : (x : ℕ) → elem x p.rings ≡ true → s.plain.groups.free x ≡ true
  pub live :
      (left (commits p) l s.device routes).answer ≡ answer.Accepted → (x : ℕ) →
      keeps x (queues (word_dcis (setting_words s.plain.list p.interface p.alternate)) p.rings) ≡ true →
      (called s (commits_now l routes p)).plain.groups.live x ≡ true

abbrev pub AskGroups : Type 0
AskGroups =
    AfterAddress
    (λ slot s.
    (interface alternate : ℕ) (l : Buffers) (routes : List ℕ) →
    let r = ask s.device (length l.ctx) (length routes) (length l.log) interface alternate in
    r.0 ≡ answer.Accepted → GroupsAsked s l routes r.1)
