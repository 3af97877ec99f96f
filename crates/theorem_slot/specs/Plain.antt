-- 01's plain slot: what a reader of the calls' arguments, answers and logs knows of a slot. Nothing of our record is in it.
use Rattle.std.specs.Prelude.{ℕ, Bool, true, false, cond, ◌||◌, List, [], ◌∷◌, ◌++◌, eqb, length, ◌&&◌}
use Rattle.descriptor_list.specs.Companions.{joined}
use Rattle.answer.specs.declared.Answer.{Answer}
use Rattle.answer.specs.Answer.{is_accepted, is_broken, is_lost}
use Rattle.context.specs.Steps.{word_dcis}
use Rattle.transfer.specs.Routes.{Queue, queues, ring_for, names}
use Rattle.record_settings.specs.Held.{setting_words}
use Rattle.theorem_controller.specs.Controller.{CONFIGURE, SET-CONFIGURATION, DISABLE, controlled, enabled_after, done_word, sent_word}
use Rattle.course_init.specs.Reading.{BringUp, control_ring}
use Rattle.theorem_slot.specs.Call.{Buffers, Asked, brings_up, claims, commits, releases, configures, updates_hub, disconnects}
use Rattle.theorem_slot.specs.Groups.{Groups, given_groups, drawn_from, claimed_groups, broken_groups, returned_groups, ended_groups, freed_groups, doubted_groups}

-- A held setting: an interface, its alternate, and the ring of each of its endpoint words.
pub record HeldSetting : Type 0 where
  pub interface : ℕ
  pub alternate : ℕ
  pub queues : List Queue

-- Where it stands.
pub data Phase : Type 0 where
  -- from an accepted bring-up on
  up : Phase
  -- from a done Disable on
  unplugged : Phase
  -- from a bring-up on that sent a command and was not accepted: nothing is said of its own routes until one is accepted
  not_up : Phase

unfoldable pub is_up : Phase → Bool
is_up up = true
is_up unplugged = false
is_up not_up = false

unfoldable pub is_unplugged : Phase → Bool
is_unplugged up = false
is_unplugged unplugged = true
is_unplugged not_up = false

unfoldable pub is_not_up : Phase → Bool
is_not_up up = false
is_not_up unplugged = false
is_not_up not_up = true

pub record Plain : Type 0 where
  pub phase : Phase
  -- control's ring, 0 while the device is unplugged
  pub control : ℕ
  pub list : List ℕ
  pub held : List HeldSetting
  -- the endpoints, by Dci, that its controller has enabled
  pub enabled : ℕ → Bool
  -- whether an answer since the bring-up was 14 or 15
  pub broken : Bool
  -- the rings given to it
  pub groups : Groups

-- Its routes: control's ring at Dci 1, each held endpoint's ring at its Dci, of a repeated address the last word's, 0 elsewhere.
unfoldable pub held_queues : List HeldSetting → List Queue
held_queues [] = []
held_queues (s ∷ ss) = s.queues ++ held_queues ss

unfoldable pub plain_route : Plain → ℕ → ℕ
plain_route p d = cond (eqb d 1) p.control (ring_for d (held_queues p.held) 0)

unfoldable pub is_held_dci : Plain → ℕ → Bool
is_held_dci p d = names d (held_queues p.held)

-- Its held settings.
unfoldable pub without : ℕ → List HeldSetting → List HeldSetting
without i [] = []
without i (s ∷ ss) = cond (eqb s.interface i) (without i ss) (s ∷ without i ss)

-- The queues of an interface's setting.
unfoldable pub queues_of_one : ℕ → List HeldSetting → List Queue
queues_of_one i [] = []
queues_of_one i (s ∷ ss) = cond (eqb s.interface i) s.queues (queues_of_one i ss)

-- A setting: the alternate that lookup finds, each endpoint word with a ring.
unfoldable pub setting_of : List ℕ → ℕ → ℕ → List ℕ → HeldSetting
setting_of list interface alternate rings =
    record { interface = interface; alternate = alternate; queues = queues (word_dcis (setting_words list interface alternate)) rings }

-- The setting that a claim asks for, with the rings that it draws.
unfoldable pub claimed_setting : ℕ → ℕ → Plain → HeldSetting
claimed_setting i a p = setting_of p.list i a (drawn_from p.groups (length (setting_words p.list i a)))

-- What a call does to the slot, by its arguments.
pub data Effect : Type 0 where
  -- accepted, the slot begins anew; not accepted but after a command, it is not up
  begins : BringUp → Effect
  -- accepted, an interface holds an alternate
  holds_interface : ℕ → ℕ → Effect
  -- accepted, an interface holds nothing
  ends_one : ℕ → Effect
  -- whatever the answer, no interface holds anything if a command of this operation is done
  ends_all : ℕ → Effect
  -- whatever the answer, the slot is empty if a Disable is done
  unplugs : Effect
  nothing : Effect

unfoldable pub effect_of : Asked → Effect
effect_of (brings_up a) = begins a
effect_of (claims i a) = holds_interface i a
effect_of (commits p) = holds_interface p.interface p.alternate
effect_of (releases i) = ends_one i
effect_of (configures value) = ends_all SET-CONFIGURATION
effect_of (updates_hub ports multi ns) = nothing
effect_of disconnects = unplugs

-- What a call's answer, and the words that it logged, say of the held settings.
unfoldable pub held_after : Effect → Bool → List ℕ → List ℕ → Plain → List HeldSetting
held_after (begins a) accepted outcomes words p = p.held
held_after (holds_interface i a) accepted outcomes words p =
    cond accepted (without i p.held ++ (claimed_setting i a p ∷ [])) p.held
held_after (ends_one i) accepted outcomes words p = cond accepted (without i p.held) p.held
held_after (ends_all operation) accepted outcomes words p = cond (done_word operation outcomes 0 words) [] p.held
held_after unplugs accepted outcomes words p = p.held
held_after nothing accepted outcomes words p = p.held

-- What they say of the given rings; `broken`: the answer is 14, `lost`: it is 14 or 15.
unfoldable pub groups_after : Effect → Bool → Bool → Bool → List ℕ → List ℕ → Plain → Groups
groups_after (begins a) accepted broken lost outcomes words p = cond (eqb (length words) 0) p.groups (given_groups a.rings)
groups_after (holds_interface i a) accepted broken lost outcomes words p =
    cond accepted
    (claimed_groups (claimed_setting i a p).queues (queues_of_one i p.held) p.groups)
    (cond (lost && sent_word CONFIGURE words) (broken_groups (claimed_setting i a p).queues p.groups) p.groups)
groups_after (ends_one i) accepted broken lost outcomes words p =
    cond accepted (returned_groups (queues_of_one i p.held) p.groups) p.groups
groups_after (ends_all operation) accepted broken lost outcomes words p =
    cond (done_word operation outcomes 0 words)
    (cond lost (ended_groups (held_queues p.held) p.groups) (returned_groups (held_queues p.held) p.groups))
    p.groups
groups_after unplugs accepted broken lost outcomes words p =
    cond accepted (freed_groups p.groups) (cond broken (doubted_groups p.groups) p.groups)
groups_after nothing accepted broken lost outcomes words p = p.groups

-- A slot whose bring-up was accepted: no held setting, and nothing but control enabled.
unfoldable pub begun : BringUp → Plain
begun a =
    record {
      phase = up;
      control = control_ring a;
      list = joined a.list;
      held = [];
      enabled = λ d. eqb d 1;
      broken = false;
      groups = given_groups a.rings;
    }

-- One whose device is unplugged: no route, no held setting. The mark stays until the next accepted bring-up.
unfoldable pub emptied : Plain → Plain
emptied p =
    record {
      phase = unplugged;
      control = 0;
      list = p.list;
      held = [];
      enabled = p.enabled;
      broken = p.broken;
      groups = p.groups;
    }

-- One whose bring-up failed.
unfoldable pub failed : Plain → Plain
failed p =
    record {
      phase = not_up;
      control = p.control;
      list = p.list;
      held = p.held;
      enabled = p.enabled;
      broken = p.broken;
      groups = p.groups;
    }

-- An accepted bring-up begins it anew, a done Disable empties it.
unfoldable pub anew : Effect → Bool → List ℕ → List ℕ → Plain → Plain
anew (begins a) accepted outcomes words p = cond accepted (begun a) (cond (eqb (length words) 0) p (failed p))
anew (holds_interface i a) accepted outcomes words p = p
anew (ends_one i) accepted outcomes words p = p
anew (ends_all operation) accepted outcomes words p = p
anew unplugs accepted outcomes words p = cond (done_word DISABLE outcomes 0 words) (emptied p) p
anew nothing accepted outcomes words p = p

-- The plain slot after a call, from its effect, its answer, the words that it logged and the endpoints that these leave enabled.
unfoldable pub seen : Effect → Buffers → Answer → List ℕ → (ℕ → Bool) → Plain → Plain
seen effect buffers answer words enabled p =
    record {
      phase = p.phase;
      control = p.control;
      list = p.list;
      held = held_after effect (is_accepted answer) buffers.outcomes words p;
      enabled = enabled;
      broken = p.broken || is_lost answer;
      groups = groups_after effect (is_accepted answer) (is_broken answer) (is_lost answer) buffers.outcomes words p;
    }

-- Its controller reads the words, and the contexts of their commands.
unfoldable pub observed : Effect → Buffers → Answer → List ℕ → (ℕ → List ℕ) → Plain → Plain
observed effect buffers answer words contexts p =
    anew effect (is_accepted answer) buffers.outcomes words
    (seen effect buffers answer words (controlled enabled_after contexts buffers.outcomes 0 words p.enabled) p)
