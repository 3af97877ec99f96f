-- The chain of hubs is what specs/Hubs.antt says.
use Rattle.std.proofs.Common.{Some, None}
use Prim.Native.Nat.{ℕ, zero, suc, ◌+◌, ◌-◌, ◌%◌, ◌^◌, ◌≤◌, ◌<◌}
use mathlib.Core.Path.{◌≡◌, refl, sym}
use mathlib.Core.Bool.{true, ◌&&◌}
use mathlib.Core.List.{List, [], ◌∷◌}
use native.Mathlib.Omega.{arith}
use borrow.Author.Tests.{eqb-true, eq-eqb, le-leb, leb-true, lt-ltb, ltb-true}
use lib.Dec.{eqb, leb, ltb}
use lib.ListN.{length, get_or}
use Rattle.laws.proofs.Tests.{and_left, and_right}
use Rattle.def.specs.Speed.{speed_known}
use Rattle.hub.specs.HubWord.{hub_info, hub_at}
use Rattle.hub.specs.Chain.{hub_fits, chain_from, chain_ok}
use Rattle.theorem_checks.specs.Descriptors.{bits}
use Rattle.theorem_checks.specs.Hubs.{HubAt, ParentOf, ParentFits, ChainFits, ChainTells}

module _ (hubs : List ℕ) where
  fits_read : (at d : ℕ) → (ltb at (length hubs) && hub_fits (hub_at hubs at) d) ≡ true → HubAt hubs at d
  unfolding hub_fits hub_at hub_info speed_known
  fits_read at d e =
      let w = get_or hubs at 0 in
      let present = eqb (bits 63 1 w) 1 in
      let speed = leb 1 (bits 40 3 w) && leb (bits 40 3 w) 5 in
      let unused = eqb (w % 2 ^ 31) 0 in
      let depth = eqb (bits 43 3 w) d in
      let h : (present && (speed && (unused && depth))) ≡ true = and_right (ltb at (length hubs)) _ e in
      let k : (speed && (unused && depth)) ≡ true = and_right present _ h in
      let l : (unused && depth) ≡ true = and_right speed _ k in
      let s : speed ≡ true = and_left speed _ k in
      record {
        inside = ltb-true at (length hubs) (and_left (ltb at (length hubs)) _ e);
        present = eqb-true (bits 63 1 w) 1 (and_left present _ h);
        speed_low = leb-true 1 (bits 40 3 w) (and_left (leb 1 (bits 40 3 w)) _ s);
        speed_high = leb-true (bits 40 3 w) 5 (and_right (leb 1 (bits 40 3 w)) _ s);
        depth = eqb-true (bits 43 3 w) d (and_right unused depth l);
        unused = eqb-true (w % 2 ^ 31) 0 (and_left unused depth l);
      }

  fits_made : (at d : ℕ) → HubAt hubs at d → (ltb at (length hubs) && hub_fits (hub_at hubs at) d) ≡ true
  unfolding hub_fits hub_at hub_info speed_known
  fits_made at d h =
      let w = get_or hubs at 0 in
      rw (
        lt-ltb at (length hubs) h.inside,
        h.present,
        le-leb 1 (bits 40 3 w) h.speed_low,
        le-leb (bits 40 3 w) 5 h.speed_high,
        h.unused,
        eq-eqb (bits 43 3 w) d h.depth,
      )

  record Way (at d : ℕ) : Type 0 where
    pub way : List ℕ
    pub counted : length way ≡ d + 1
    pub begins : get_or way 0 0 ≡ at
    pub fit : (j : ℕ) → j ≤ d → HubAt hubs (get_or way j 0) (d - j)
    pub parents : (j : ℕ) → j < d → ParentOf hubs (get_or way j 0) (get_or way (suc j) 0)

  way_read : (d at : ℕ) → chain_from hubs at d ≡ true → Way at d
  unfolding chain_from hub_at hub_info
  way_read zero at e =
      record {
        way = at ∷ [];
        counted = omega arith;
        begins = refl;
        fit = λ j h. let z : j ≡ 0 = omega arith in rw z (fits_read at 0 e);
        parents = λ j h. absurd (omega arith);
      }
  way_read (suc d) at e =
      let w = get_or hubs at 0 in
      let fits = ltb at (length hubs) && hub_fits (hub_at hubs at) (suc d) in
      let parent = bits 54 8 w in
      let up : (eqb (bits 62 1 w) 1 && chain_from hubs parent d) ≡ true = and_right fits _ e in
      let r = way_read d parent (and_right (eqb (bits 62 1 w) 1) _ up) in
      let here : HubAt hubs at (suc d) = fits_read at (suc d) (and_left fits _ e) in
      let has : bits 62 1 w ≡ 1 = eqb-true (bits 62 1 w) 1 (and_left (eqb (bits 62 1 w) 1) _ up) in
      record {
        way = at ∷ r.way;
        counted = omega (arith, r.counted);
        begins = refl;
        fit = fit r here;
        parents = parents r has;
      }
    where
      fit : (r : Way (bits 54 8 (get_or hubs at 0)) d) → HubAt hubs at (suc d) → (j : ℕ) → j ≤ suc d → HubAt hubs (get_or (at ∷ r.way) j 0) (suc d - j)
      fit r here zero h = let z : suc d - 0 ≡ suc d = omega arith in rw z here
      fit r here (suc j) h = let z : suc d - suc j ≡ d - j = omega arith in rw z (r.fit j (omega arith))

      parents : (r : Way (bits 54 8 (get_or hubs at 0)) d) → bits 62 1 (get_or hubs at 0) ≡ 1 → (j : ℕ) → j < suc d →
          ParentOf hubs (get_or (at ∷ r.way) j 0) (get_or (at ∷ r.way) (suc j) 0)
      parents r has zero h = record { has = has; parent_is = sym r.begins }
      parents r has (suc j) h = r.parents j (omega arith)

  way_made : (d at : ℕ) (way : List ℕ) → get_or way 0 0 ≡ at → length way ≡ d + 1 →
      ((j : ℕ) → j ≤ d → HubAt hubs (get_or way j 0) (d - j)) →
      ((j : ℕ) → j < d → ParentOf hubs (get_or way j 0) (get_or way (suc j) 0)) → chain_from hubs at d ≡ true
  unfolding chain_from hub_at hub_info
  way_made zero at way b l f p = rw (← b) (fits_made (get_or way 0 0) 0 (f 0 (omega arith)))
  way_made (suc d) at [] b l f p = absurd (omega arith)
  way_made (suc d) at (x ∷ way) b l f p =
      let z : suc d - 0 ≡ suc d = omega arith in
      rw (← b)
      (up (rw z at (f 0 (omega arith))) (p 0 (omega arith))
      (way_made d (get_or way 0 0) way refl (omega (arith, l)) (λ j h. let y : suc d - suc j ≡ d - j = omega arith in rw y at (f (suc j) (omega arith)))
      (λ j h. p (suc j) (omega arith))))
    where
      up : HubAt hubs x (suc d) → ParentOf hubs x (get_or way 0 0) → chain_from hubs (get_or way 0 0) d ≡ true →
          ((ltb x (length hubs) && hub_fits (hub_at hubs x) (suc d)) && ((hub_at hubs x).has_parent && chain_from hubs (hub_at hubs x).parent d)) ≡ true
      up h q r = rw (fits_made x (suc d) h, q.has, q.parent_is, r)

  -- From a hub on.
  chain_read : (at : ℕ) → chain_ok hubs (Some at) ≡ true → ChainFits hubs (Some at)
  unfolding chain_ok ParentFits hub_at hub_info
  chain_read at e =
      let depth = bits 43 3 (get_or hubs at 0) in
      let few = leb (length hubs) 256 in
      let five = leb depth 5 in
      let t : (five && chain_from hubs at depth) ≡ true = and_right few _ e in
      let r = way_read depth at (and_right five _ t) in
      record {
        few = leb-true (length hubs) 256 (and_left few _ e);
        chain =
            record {
              way = r.way;
              above = depth;
              counted = r.counted;
              few = leb-true depth 5 (and_left five _ t);
              begins = r.begins;
              fit = r.fit;
              parents = λ j h. let z : j + 1 ≡ suc j = omega arith in rw z (r.parents j h);
            };
      }

  chain_made : (at : ℕ) → ChainFits hubs (Some at) → chain_ok hubs (Some at) ≡ true
  unfolding chain_ok ParentFits hub_at hub_info
  chain_made at f =
      let c = f.chain in
      let h = c.fit 0 (omega arith) in
      let z : c.above - 0 ≡ c.above = omega arith in
      let depth : bits 43 3 (get_or hubs at 0) ≡ c.above = rw (c.begins, z) at h.depth in
      rw (le-leb (length hubs) 256 f.few, depth, le-leb c.above 5 c.few, way_made c.above at c.way c.begins c.counted c.fit (λ j q. let y : j + 1 ≡ suc j = omega arith in rw y at (c.parents j q)))

  alone_read : chain_ok hubs None ≡ true → ChainFits hubs None
  unfolding chain_ok ParentFits
  alone_read e = record { few = leb-true (length hubs) 256 e; chain = tt }

  alone_made : ChainFits hubs None → chain_ok hubs None ≡ true
  unfolding chain_ok ParentFits
  alone_made f = le-leb (length hubs) 256 f.few

pub chain_tells : ChainTells
chain_tells hubs None = (alone_read hubs, alone_made hubs)
chain_tells hubs (Some at) = (chain_read hubs at, chain_made hubs at)
