-- One turn of the walk from the end of a list: what it knows of the words behind it.
use Prim.Native.Nat.{ℕ, ◌+◌, ◌-◌, ◌≤◌, ◌<◌}
use mathlib.Core.Path.{◌≡◌, refl}
use mathlib.Core.Bool.{Bool, true, false}
use mathlib.Core.List.{List}
use native.Mathlib.Omega.{arith}
use lib.Dec.{eqb}
use lib.ListN.{length, get_or, set, drop, replicate, length-replicate, length-set}
use Rattle.descriptor.specs.Word.{kind, interface_number, word_ok, CONFIGURATION, ALTERNATE, ENDPOINT}
use Rattle.descriptor_list.proofs.Marks.{Counted, counted_end, other_word, marked_word, new_word}
use Rattle.descriptor_list.proofs.Next.{drop_back}
use Rattle.descriptor_list.proofs.Steps.{Walked, walked_end, configuration_taken, alternate_taken, endpoint_taken}

pub record Behind (list : List ℕ) (marks : List Bool) (count run i : ℕ) : Type 0 where
  pub inside : i ≤ length list
  pub few : count + i ≤ length list
  pub short : run + i ≤ length list
  pub size : length marks ≡ 256
  pub counted : Counted marks count (drop i list)
  pub walked : Walked (drop i list) run

pub behind_end : (list : List ℕ) → Behind list (replicate 256 false) 0 0 (length list)
behind_end list =
    record {
      inside = omega arith;
      few = omega arith;
      short = omega arith;
      size = length-replicate 256 false;
      counted = counted_end list;
      walked = walked_end list;
    }

module _ (list : List ℕ) (marks : List Bool) (count run i : ℕ) (b : Behind list marks count run i) (h : 0 < i) where
  -- a turn that leaves marks and count
  same : (run' k : ℕ) → run' ≤ run + 1 → kind (get_or list (i - 1) 0) ≡ k → eqb k ALTERNATE ≡ false → Walked (drop (i - 1) list) run' →
      Behind list marks count run' (i - 1)
  same run' k r e a v =
      record {
        inside = omega (arith, b.inside);
        few = omega (arith, b.few);
        short = omega (arith, b.short);
        size = b.size;
        counted = rw (drop_back list i h b.inside) (other_word _ _ _ _ b.counted k e a);
        walked = v;
      }

  module _ (ok : word_ok (get_or list (i - 1) 0) ≡ true) where
    pub behind_configuration : kind (get_or list (i - 1) 0) ≡ CONFIGURATION → run ≡ 0 → Behind list marks count run (i - 1)
    behind_configuration k r = same run _ (omega arith) k refl (configuration_taken _ _ _ h b.inside b.walked ok k r)

    pub behind_endpoint : kind (get_or list (i - 1) 0) ≡ ENDPOINT → Behind list marks count (run + 1) (i - 1)
    behind_endpoint k = same (run + 1) _ (omega arith) k refl (endpoint_taken _ _ _ h b.inside b.walked ok k)

    module _ (k : kind (get_or list (i - 1) 0) ≡ ALTERNATE) (r : run ≤ 30) (x : ℕ) (e : x ≡ interface_number (get_or list (i - 1) 0)) (f : x < 256) where
      pub behind_marked : get_or marks x false ≡ true → Behind list marks count 0 (i - 1)
      behind_marked m =
          record {
            inside = omega (arith, b.inside);
            few = omega (arith, b.few);
            short = omega (arith, b.short);
            size = b.size;
            counted = rw (drop_back list i h b.inside) (marked_word _ _ _ _ b.counted x e k f m);
            walked = alternate_taken _ _ _ h b.inside b.walked ok k r;
          }

      pub behind_new : get_or marks x false ≡ false → Behind list (set marks x true) (count + 1) 0 (i - 1)
      behind_new m =
          record {
            inside = omega (arith, b.inside);
            few = omega (arith, b.few);
            short = omega (arith, b.short);
            size = simp length-set b.size;
            counted = rw (drop_back list i h b.inside) (new_word _ _ _ _ b.counted x e k f b.size m);
            walked = alternate_taken _ _ _ h b.inside b.walked ok k r;
          }
