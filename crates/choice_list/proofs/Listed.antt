-- The candidates of an interface, place by place.
use Rattle.std.specs.Prelude.{ℕ, suc, ◌+◌, ◌-◌, ◌<◌, ◌≤◌, ◌≡◌, Bool, true, false, cond, List, [], ◌∷◌, ◌++◌, length, get_or, set, take}
use mathlib.Core.Path.{refl, sym, ap, ◌∙◌}
use native.Mathlib.Omega.{arith}
use Rattle.std.proofs.lemmas.List.{take_more_set, append_assoc, append-nil, length-append, length-take-le}
use lib.ListN.{length-set}
use Rattle.context_block.specs.Flags.{flags_of}
use Rattle.choice_search.specs.declared.by_name.Candidate.{Candidate}
use Rattle.choice_list.specs.Candidate.{first_length, words_at}
use Rattle.choice_list.specs.Tried.{may_choose, candidates_from, candidates}

module _ (list : List ℕ) (speed longest interface : ℕ) where
  abbrev pub at_place : ℕ → Candidate
  at_place place = record { place = place; addresses = flags_of (words_at list interface place) }

  -- They are put from an index on into an array that has room for them.
  module _ (before : List Candidate) (from : ℕ) where
    pub record Fits : Type 0 where
      pub room : length before ≡ 256
      pub fit : from + length (candidates list speed longest interface) ≤ 256

    -- Where the walk stands before a place.
    pub record Listing (all : List Candidate) (count place end : ℕ) : Type 0 where
      pub room : length all ≡ 256
      pub few : count ≤ 256
      pub inside : end ≡ first_length list
      pub whole : take count all ++ candidates_from list speed longest interface (end - place) place ≡ take from before ++ candidates list speed longest interface

    pub list_starts : Fits → Listing before from 0 (first_length list)
    unfolding candidates
    list_starts f =
        let z : first_length list - 0 ≡ first_length list = omega arith in
        let fit = f.fit in
        record { room = f.room; few = omega arith; inside = refl; whole = rw z refl }

    module _ (all : List Candidate) (count place end : ℕ) (h : place < end) (l : Listing all count place end) where
      abbrev behind : List Candidate
      behind = candidates_from list speed longest interface (end - (place + 1)) (place + 1)

      next : (b : Bool) → may_choose list speed longest interface place ≡ b →
          candidates_from list speed longest interface (end - place) place ≡ cond b (at_place place ∷ behind) behind
      unfolding candidates_from
      next b e = let n : end - place ≡ suc (end - (place + 1)) = omega arith in rw (n, e) refl

      pub list_skips : may_choose list speed longest interface place ≡ false → Listing all count (place + 1) end
      list_skips e =
          record { room = l.room; few = l.few; inside = l.inside; whole = ap (λ r. take count all ++ r) (sym (next false e)) ∙ l.whole }

      module _ (f : Fits) (e : may_choose list speed longest interface place ≡ true) where
        whole_here : take count all ++ (at_place place ∷ behind) ≡ take from before ++ candidates list speed longest interface
        whole_here = ap (λ r. take count all ++ r) (sym (next true e)) ∙ l.whole

        pub list_room : count < 256
        list_room =
            let g = f.fit in
            let few = l.few in
            let n = length-take-le count all (rw l.room few) in
            let m = length-take-le from before (rw f.room (let k : from ≤ 256 = omega arith in k)) in
            let w = simp length-append at (ap length whole_here) in
            omega (arith, w, n, m)

        pub list_puts : (c : Candidate) → c ≡ at_place place → Listing (set all count c) (count + 1) (place + 1) end
        list_puts c q =
            record {
              room = simp length-set l.room;
              few = let r = list_room in omega arith;
              inside = l.inside;
              whole =
                  ap (λ t. t ++ behind) (take_more_set all count c (rw l.room list_room))
                  ∙ append_assoc (take count all) (c ∷ []) _
                  ∙ rw q whole_here;
            }

    pub list_ends : (all : List Candidate) (count place end : ℕ) → end ≤ place → Fits → Listing all count place end →
        (count ≡ from + length (candidates list speed longest interface)) × (take count all ≡ take from before ++ candidates list speed longest interface)
    unfolding candidates_from
    list_ends all count place end h f l = (counted, whole)
      where
        whole : take count all ≡ take from before ++ candidates list speed longest interface
        whole = let z : end - place ≡ 0 = omega arith in sym (append-nil (take count all)) ∙ rw z at l.whole

        counted : count ≡ from + length (candidates list speed longest interface)
        counted =
            let g = f.fit in
            let few = l.few in
            let n = length-take-le count all (rw l.room few) in
            let m = length-take-le from before (rw f.room (let k : from ≤ 256 = omega arith in k)) in
            let w = simp length-append at (ap length whole) in
            omega (arith, w, n, m)
