-- The promise of specs/Before.antt.
use Prim.Native.Nat.{ℕ}
use mathlib.Core.Path.{◌≡◌, refl, sym, ◌∙◌}
use mathlib.Core.Logic.{inl, inr}
use mathlib.Core.Bool.{Bool, true, false, ◌&&◌}
use lib.ListN.{take}
use Rattle.laws.proofs.Cases.{Decided, decided}
use Rattle.def.specs.Speed.{is_super}
use Rattle.descriptor_list.specs.Valid.{valid_list}
use Rattle.descriptor_list.specs.Companions.{joined, valid_at}
use Rattle.descriptor_list.specs.Promises.{AsBefore}
use Rattle.descriptor_list.proofs.Companions as lists
use Rattle.record_endpoint.specs.Endpoint.{addresses}
use Rattle.record_checks.specs.Sound.{lists_match}
use Rattle.device.specs.declared.record.Device.{Device}
use Rattle.device.specs.Device.{words_of, list_of, endpoint_map_in, held_of}
use Rattle.device.specs.Sound.{lists_sound}
use Rattle.device.specs.Before.{lists_sound_before, BeforePromise}
use Rattle.device.proofs.Facts.{sound_facts}

pub before_promise : BeforePromise
unfolding lists_sound lists_sound_before list_of
before_promise d s =
    record {
      lists = same (decided (valid_list (words_of d)));
      list = λ e. before.same (sym before.valid ∙ (sound_facts d e).valid);
    }
  where
    before : AsBefore d.port_speed (words_of d)
    before = lists.before_promise d.port_speed (words_of d) s

    same : Decided (valid_list (words_of d)) →
        (valid_at d.port_speed (words_of d) && lists_match (joined (words_of d)) (held_of d) (addresses (take d.ep_count d.eps)) (endpoint_map_in d))
        ≡ (valid_list (words_of d) && lists_match (words_of d) (held_of d) (addresses (take d.ep_count d.eps)) (endpoint_map_in d))
    same (inl p) = rw (before.valid, before.same p)
    same (inr p) = rw (before.valid, p)
