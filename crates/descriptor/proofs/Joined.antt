-- Every promise of specs/Promises.antt, and what callers use of companions.
use Prim.Native.Nat.{ℕ, ◌+◌, ◌*◌, ◌/◌, ◌%◌, ◌^◌, ◌<◌}
use mathlib.Core.Path.{◌≡◌, refl}
use native.Mathlib.Omega.{arith}
use Rattle.std.proofs.Common.{Bool, true, false}
use lib.Dec.{eqb}
use borrow.Author.Tests.{eqb-true}
use Rattle.descriptor.specs.Word.{COMPANION, kind, is_companion, configuration_value, interface_number, alternate_setting, direction_in, endpoint_number, type_number, transfer_type, companion_burst, companion_mult, companion_bytes, with_companion, companion_of, endpoint_descriptor, endpoint_ok, word_ok}
use Rattle.descriptor.specs.Promises.{SaysSame, SamePromise, SaysOf, CompanionPromise}

module _ (w c : ℕ) where
  same_kind : kind (with_companion w c) ≡ kind w
  unfolding kind with_companion
  same_kind = omega arith

  same_value : configuration_value (with_companion w c) ≡ configuration_value w
  unfolding configuration_value with_companion
  same_value = omega arith

  same_interface : interface_number (with_companion w c) ≡ interface_number w
  unfolding interface_number with_companion
  same_interface = omega arith

  same_alternate : alternate_setting (with_companion w c) ≡ alternate_setting w
  unfolding alternate_setting with_companion
  same_alternate = omega arith

  same_direction : direction_in (with_companion w c) ≡ direction_in w
  unfolding direction_in with_companion
  same_direction = omega arith

  same_number : endpoint_number (with_companion w c) ≡ endpoint_number w
  unfolding endpoint_number with_companion
  same_number = omega arith

  same_type : type_number (with_companion w c) ≡ type_number w
  unfolding type_number with_companion
  same_type = omega arith

  same_size : (endpoint_descriptor (with_companion w c)).max_packet_size ≡ (endpoint_descriptor w).max_packet_size
  unfolding endpoint_descriptor with_companion
  same_size = omega arith

  same_packets : (endpoint_descriptor (with_companion w c)).packets_per_microframe ≡ (endpoint_descriptor w).packets_per_microframe
  unfolding endpoint_descriptor with_companion
  same_packets = omega arith

  same_interval : (endpoint_descriptor (with_companion w c)).interval ≡ (endpoint_descriptor w).interval
  unfolding endpoint_descriptor with_companion
  same_interval = omega arith

  same_ok : word_ok (with_companion w c) ≡ word_ok w
  unfolding word_ok endpoint_ok with_companion
  same_ok =
      let configuration : with_companion w c % 2 ^ 22 ≡ w % 2 ^ 22 = omega arith in
      let alternate : with_companion w c % 2 ^ 14 ≡ w % 2 ^ 14 = omega arith in
      let endpoint : with_companion w c % 2 ^ 2 ≡ w % 2 ^ 2 = omega arith in
      rw (same_kind, same_number, same_type, configuration, alternate, endpoint)

pub same_promise : SamePromise
unfolding endpoint_descriptor
same_promise w c =
    record {
      kind = same_kind w c;
      value = same_value w c;
      interface = same_interface w c;
      alternate = same_alternate w c;
      type = same_type w c;
      address = rw (same_direction w c, same_number w c);
      transfer = rw (same_type w c);
      size = same_size w c;
      packets = same_packets w c;
      interval = same_interval w c;
      ok = same_ok w c;
    }

pub companion_promise : CompanionPromise
unfolding endpoint_descriptor companion_burst companion_mult companion_bytes with_companion companion_of
companion_promise w c h =
    let above : (w + 2 ^ 32 * c) / 2 ^ 32 ≡ c = omega arith in
    let none : w / 2 ^ 32 ≡ 0 = omega arith in
    (record { burst = rw above; mult = rw above; bytes = rw above }, record { burst = rw none; mult = rw none; bytes = rw none })

-- A companion stands in no list of 01's.
pub companion_refused : (w : ℕ) → is_companion w ≡ true → word_ok w ≡ false
unfolding is_companion word_ok
companion_refused w e = rw (eqb-true (kind w) COMPANION e)
