-- Lists that stand one after the other, and what is read of them.
use Prim.Native.Nat.{ℕ, zero, suc, ◌+◌, ◌≤◌, ◌<◌}
use mathlib.Core.Path.{◌≡◌, refl, sym, ap, subst, ◌∙◌}
use mathlib.Core.Bool.{true}
use mathlib.Core.List.{List, [], ◌∷◌, ◌++◌, map, flatten}
use native.Mathlib.Nat.{add-zero, zero-add}
use native.Mathlib.Decide.{dec_lt}
use native.Mathlib.Omega.{arith}
use borrow.Author.Tests.{lt-ltb, ltb-true}
use lib.Dec.{ltb}
use lib.ListN.{length, get_or, set, take, length-append, get_or-append}
use lib.Seq.{get_or-append-add, drop_at, sets, sets-eq, map-set_same}
use Rattle.laws.proofs.Tests.{and_left, and_right, and-true}
use Rattle.record_endpoint.specs.EndpointMap.{tabulated}
use Rattle.device_image.specs.Image.{number_at, below}

unfoldable pub sum : List ℕ → ℕ
sum [] = 0
sum (k ∷ ks) = k + sum ks

pub length_joined : (ps : List (List ℕ)) → length (flatten ps) ≡ sum (map length ps)
unfolding flatten sum
length_joined [] = refl
length_joined (p ∷ ps) = length-append p (flatten ps) ∙ ap (λ (k : ℕ). length p + k) (length_joined ps)

-- Word i of part j.
at_part :
    (ps : List (List ℕ)) (j i : ℕ) → i < length (get_or ps j []) →
    get_or (flatten ps) (sum (take j (map length ps)) + i) 0 ≡ get_or (get_or ps j []) i 0
unfolding flatten sum
at_part [] j i h = absurd (omega arith)
at_part (p ∷ ps) zero i h = rw zero-add (get_or-append p (flatten ps) 0 i h)
at_part (p ∷ ps) (suc j) i h =
    let e : length p + sum (take j (map length ps)) + i ≡ length p + (sum (take j (map length ps)) + i) = omega arith in
    rw e (get_or-append-add p (flatten ps) (sum (take j (map length ps)) + i) 0 ∙ at_part ps j i h)

-- A list that a function says element by element.
pub tabulated_list :
    {A : Type 0} (f : ℕ → A) (p : List A) (k a : ℕ) (d : A) → length p ≡ k → ((i : ℕ) → i < k → f (a + i) ≡ get_or p i d) →
    tabulated f k a ≡ p
unfolding tabulated
tabulated_list f [] zero a d e h = refl
tabulated_list f [] (suc k) a d e h = absurd (omega arith)
tabulated_list f (x ∷ p) zero a d e h = absurd (omega arith)
tabulated_list f (x ∷ p) (suc k) a d e h =
    let first : f a ≡ x = ap f (sym (add-zero a)) ∙ h 0 (omega arith) in
    rw first
    (ap (λ (l : List _). x ∷ l)
    (tabulated_list f p k (a + 1) d (omega arith)
    (λ i g. let e : a + 1 + i ≡ a + suc i = omega arith in rw e (h (suc i) (omega arith)))))

module _ {A : Type 0} (f h : ℕ → A) where
  -- Functions that agree from two places on.
  pub tabulated_same :
      (k a b : ℕ) → ((i : ℕ) → i < k → f (a + i) ≡ h (b + i)) → tabulated f k a ≡ tabulated h k b
  unfolding tabulated
  tabulated_same zero a b e = refl
  tabulated_same (suc k) a b e =
      let first : f a ≡ h b = ap f (sym (add-zero a)) ∙ e 0 (omega arith) ∙ ap h (add-zero b) in
      rw first
      (ap (λ (l : List A). h b ∷ l)
      (tabulated_same k (a + 1) (b + 1)
      (λ i g.
      let p : a + 1 + i ≡ a + suc i = omega arith in
      let q : b + 1 + i ≡ b + suc i = omega arith in rw (p, q) (e (suc i) (omega arith)))))

pub tabulated_map :
    {A B : Type 0} (g : A → B) (f : ℕ → A) (k a : ℕ) → map g (tabulated f k a) ≡ tabulated (λ i. g (f i)) k a
unfolding tabulated
tabulated_map g f zero a = refl
tabulated_map {B = B} g f (suc k) a = ap (λ (l : List B). g (f a) ∷ l) (tabulated_map g f k (a + 1))

pub tabulated_length : {A : Type 0} (f : ℕ → A) (k a : ℕ) → length (tabulated f k a) ≡ k
unfolding tabulated
tabulated_length f zero a = refl
tabulated_length f (suc k) a = ap suc (tabulated_length f k (a + 1))

pub tabulated_at : {A : Type 0} (f : ℕ → A) (k a i : ℕ) (d : A) → i < k → get_or (tabulated f k a) i d ≡ f (a + i)
unfolding tabulated
tabulated_at f zero a i d h = absurd (omega arith)
tabulated_at f (suc k) a zero d h = rw add-zero
tabulated_at f (suc k) a (suc i) d h =
    let e : a + 1 + i ≡ a + suc i = omega arith in tabulated_at f k (a + 1) i d (omega arith) ∙ ap f e

tabulated_add :
    {A : Type 0} (f : ℕ → A) (j k a : ℕ) → tabulated f (j + k) a ≡ tabulated f j a ++ tabulated f k (a + j)
unfolding tabulated
tabulated_add f zero k a = rw (zero-add, add-zero)
tabulated_add f (suc j) k a =
    let e : suc j + k ≡ suc (j + k) = omega arith in
    let q : a + 1 + j ≡ a + suc j = omega arith in rw (e, tabulated_add f j k (a + 1), q)

-- A list cut into pieces of some sizes.
unfoldable pub cuts : List ℕ → ℕ → List ℕ → List (List ℕ)
cuts [] a l = []
cuts (k ∷ ks) a l = tabulated (number_at l) k a ∷ cuts ks (a + k) l

pub cuts_joined : (ks : List ℕ) (a : ℕ) (l : List ℕ) → flatten (cuts ks a l) ≡ tabulated (number_at l) (sum ks) a
unfolding cuts flatten sum tabulated
cuts_joined [] a l = refl
cuts_joined (k ∷ ks) a l =
    ap (λ (m : List ℕ). tabulated (number_at l) k a ++ m) (cuts_joined ks (a + k) l)
    ∙ sym (tabulated_add (number_at l) k (sum ks) a)

pub number_list : (l : List ℕ) (k : ℕ) → length l ≡ k → tabulated (number_at l) k 0 ≡ l
unfolding number_at
number_list l k e = tabulated_list (number_at l) l k 0 0 e (λ i h. rw zero-add)

-- A run of words below a bound.
pub below_run :
    (bound k a : ℕ) (l : List ℕ) → ((i : ℕ) → i < k → get_or l (a + i) 0 < bound) → below bound k a l ≡ true
unfolding below
below_run bound zero a l h = refl
below_run bound (suc k) a l h =
    let first : get_or l a 0 < bound = subst (λ (m : ℕ). get_or l m 0 < bound) (add-zero a) (h 0 (omega arith)) in
    rw (lt-ltb (get_or l a 0) bound first)
    (below_run bound k (a + 1) l
    (λ i g. let e : a + 1 + i ≡ a + suc i = omega arith in rw e (h (suc i) (omega arith))))

pub below_add :
    (bound j k a : ℕ) (l : List ℕ) → below bound j a l ≡ true → below bound k (a + j) l ≡ true →
    below bound (j + k) a l ≡ true
unfolding below
below_add bound zero k a l g h = rw zero-add (subst (λ (m : ℕ). below bound k m l ≡ true) (add-zero a) h)
below_add bound (suc j) k a l g h =
    let e : suc j + k ≡ suc (j + k) = omega arith in
    let q : a + suc j ≡ a + 1 + j = omega arith in
    rw e
    (and-true _ _ (and_left (ltb (get_or l a 0) bound) (below bound j (a + 1) l) g)
    (below_add bound j k (a + 1) l (and_right (ltb (get_or l a 0) bound) (below bound j (a + 1) l) g)
    (subst (λ (m : ℕ). below bound k m l ≡ true) q h)))

pub below_in :
    (bound k a : ℕ) (l : List ℕ) → below bound k a l ≡ true → (i : ℕ) → a ≤ i → i < a + k → get_or l i 0 < bound
unfolding below
below_in bound zero a l e i g h = absurd (omega arith)
below_in bound (suc k) a l e i g h =
    go (dec_lt a i) (below_in bound k (a + 1) l (and_right (ltb (get_or l a 0) bound) (below bound k (a + 1) l) e) i)
  where
    go : Dec (a < i) → (a + 1 ≤ i → i < a + 1 + k → get_or l i 0 < bound) → get_or l i 0 < bound
    go (yes p) rest = rest (omega arith) (omega arith)
    go (no p) rest =
        let same : a ≡ i = omega arith in
        subst (λ (m : ℕ). get_or l m 0 < bound) same
        (ltb-true (get_or l a 0) bound (and_left (ltb (get_or l a 0) bound) (below bound k (a + 1) l) e))

-- A list in pieces of some sizes, and a piece of it written over.
map_size : (ps : List (List ℕ)) (j : ℕ) → length (get_or ps j []) ≡ get_or (map length ps) j 0
map_size [] j = refl
map_size (p ∷ ps) zero = refl
map_size (p ∷ ps) (suc j) = map_size ps j

cuts_sizes : (ks : List ℕ) (a : ℕ) (l : List ℕ) → map length (cuts ks a l) ≡ ks
unfolding cuts
cuts_sizes [] a l = refl
cuts_sizes (k ∷ ks) a l = rw (tabulated_length (number_at l) k a, cuts_sizes ks (a + k) l)

sets_cons : (p r : List ℕ) (y k : ℕ) → sets (y ∷ r) (suc k) p ≡ y ∷ sets r k p
sets_cons [] r y k = refl
sets_cons (x ∷ p) r y k = sets_cons p (set r k x) y (suc k)

sets_beyond : (q l p : List ℕ) (k : ℕ) → sets (q ++ l) (length q + k) p ≡ q ++ sets l k p
sets_beyond [] l p k = rw zero-add
sets_beyond (y ∷ q) l p k =
    let e : suc (length q) + k ≡ suc (length q + k) = omega arith in
    ap (λ (m : ℕ). sets (y ∷ (q ++ l)) m p) e ∙ sets_cons p (q ++ l) y (length q + k)
    ∙ ap (λ (m : List ℕ). y ∷ m) (sets_beyond q l p k)

set_piece :
    (ps : List (List ℕ)) (j : ℕ) (p : List ℕ) → length p ≡ length (get_or ps j []) →
    sets (flatten ps) (sum (take j (map length ps))) p ≡ flatten (set ps j p)
unfolding flatten sum
set_piece [] j [] h = refl
set_piece [] j (x ∷ p) h = absurd (omega arith)
set_piece (q ∷ ps) zero p h =
    sets-eq p (q ++ flatten ps) 0 (omega (arith, length-append q (flatten ps)))
    ∙ ap (λ (m : List ℕ). p ++ m) (drop_at q (flatten ps) (0 + length p) (omega arith))
set_piece (q ∷ ps) (suc j) p h =
    sets_beyond q (flatten ps) p (sum (take j (map length ps))) ∙ ap (λ (m : List ℕ). q ++ m) (set_piece ps j p h)

pub record Laid (ks : List ℕ) (ps : List (List ℕ)) (l : List ℕ) : Type 0 where
  pub joined : l ≡ flatten ps
  pub sized : map length ps ≡ ks

pub laid_cuts : (ks l : List ℕ) → length l ≡ sum ks → Laid ks (cuts ks 0 l) l
laid_cuts ks l e =
    record { joined = sym (cuts_joined ks 0 l ∙ number_list l (sum ks) e); sized = cuts_sizes ks 0 l }

laid_size : {ks : List ℕ} {ps : List (List ℕ)} {l : List ℕ} → Laid ks ps l → (j : ℕ) → length (get_or ps j []) ≡ get_or ks j 0
laid_size {ps = ps} w j = map_size ps j ∙ ap (λ (m : List ℕ). get_or m j 0) w.sized

-- Word i of piece j, and the piece.
pub laid_word :
    {ks : List ℕ} {ps : List (List ℕ)} {l : List ℕ} → Laid ks ps l → (j i : ℕ) → i < get_or ks j 0 →
    get_or l (sum (take j ks) + i) 0 ≡ get_or (get_or ps j []) i 0
laid_word {ks} {ps} {l} w j i h =
    ap (λ (m : List ℕ). get_or m (sum (take j ks) + i) 0) w.joined
    ∙ subst (λ (m : List ℕ). get_or (flatten ps) (sum (take j m) + i) 0 ≡ get_or (get_or ps j []) i 0) w.sized
    (at_part ps j i (rw (laid_size w j) h))

pub laid_part :
    {ks : List ℕ} {ps : List (List ℕ)} {l : List ℕ} → Laid ks ps l → (j : ℕ) →
    tabulated (number_at l) (get_or ks j 0) (sum (take j ks)) ≡ get_or ps j []
unfolding number_at
laid_part {ks} {ps} {l} w j =
    tabulated_list (number_at l) (get_or ps j []) (get_or ks j 0) (sum (take j ks)) 0 (laid_size w j) (laid_word w j)

pub lay :
    {ks : List ℕ} {ps : List (List ℕ)} {l : List ℕ} (j : ℕ) (p : List ℕ) → length p ≡ get_or ks j 0 → Laid ks ps l →
    Laid ks (set ps j p) (sets l (sum (take j ks)) p)
lay {ks} {ps} {l} j p h w =
    let size : length p ≡ length (get_or ps j []) = h ∙ sym (laid_size w j) in
    record {
      joined =
          ap (λ (m : List ℕ). sets m (sum (take j ks)) p) w.joined
          ∙ subst (λ (m : List ℕ). sets (flatten ps) (sum (take j m)) p ≡ flatten (set ps j p)) w.sized
          (set_piece ps j p size);
      sized = map-set_same length ps j p [] size ∙ w.sized;
    }
