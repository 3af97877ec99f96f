-- What the calls make of a record's rings and of the plain slot's groups.
use Prim.Native.Nat.{ℕ, ◌<◌}
use mathlib.Core.Path.{◌≡◌, refl, sym, ◌∙◌, ap}
use mathlib.Core.Bool.{Bool, true, false, not, cond, ◌&&◌, ◌||◌, and-not_self, or-false}
use mathlib.Core.List.{List, ◌∷◌}
use mathlib.Core.Logic.{⊎_elim}
use native.Mathlib.Omega.{arith}
use borrow.Author.Tests.{ne_eqb}
use lib.Dec.{eqb}
use lib.ListN.{length, get_or, replicate, get_or-replicate}
use Rattle.laws.specs.Distinct.{elem}
use Rattle.laws.proofs.Tests.{not_both}
use Rattle.laws.proofs.Cases.{false_if, or_left, or_right, or_cases}
use Rattle.answer.specs.declared.Answer.{Answer}
use Rattle.answer.specs.Answer.{is_accepted, is_lost}
use Rattle.transfer.specs.Routes.{Queue}
use Rattle.record_ring.specs.Rings.{entered}
use Rattle.record_ring.proofs.Entered.{entered_has, entered_new, entered_from}
use Rattle.record_endpoint.specs.Order.{PLACES}
use Rattle.record_endpoint.specs.EndpointMap.{is_owned, owned_rings, queues_of, queue_rings, pending_rings, no_endpoints, claimed_endpoints}
use Rattle.record_endpoint.specs.declared.endpoint_map.EndpointMap.{EndpointMap}
use Rattle.record_endpoint.specs.declared.endpoint_map.Owner.TheVariants.{Interface}
use Rattle.record_endpoint.proofs.Laws.{pending_length}
use Rattle.record_settings.specs.Held.{Held, setting_words}
use Rattle.record_checks.proofs.Laws.{Apart, apart_offered, offered_live}
use Rattle.course_steps.specs.End.{End}
use Rattle.device.specs.declared.record.Device.{Device}
use Rattle.device.specs.Device.{list_of, endpoint_map_in, quarantined_of, given_of, with_endpoints, with_held, with_configuration, quarantines, unusable}
use Rattle.device.specs.Sound.{sound}
use Rattle.device.specs.Left.{marked}
use Rattle.device.specs.Claim.{drawn, claim_record}
use Rattle.device.specs.Release.{release_record}
use Rattle.device.specs.SetConfiguration.{bare, ended_by, set_record}
use Rattle.device.specs.Disconnect.{rings_in_doubt}
use Rattle.device.proofs.Facts.{none_quarantined}
use Rattle.device.proofs.Made.{Made, sound_clean, sound_apart}
use Rattle.device.proofs.Kept.{ClaimPassed}
use Rattle.theorem_slot.specs.Groups.{Groups, keeps, claimed_groups, broken_groups, returned_groups, ended_groups, doubted_groups}
use Rattle.theorem_slot.proofs.Bools.{implies, implies_if, same_if, law}
use Rattle.theorem_slot.proofs.Kept.{has, has_place_lem, queue_has, owned_has, claimed_has}
use Rattle.theorem_slot.proofs.Agree.{Agree, agree_same, agree_claimed, agree_broken, agree_returned, agree_lost, agree_doubted}
use Rattle.theorem_slot.proofs.Record.{used_by, in_doubt, AgreeWith, used_given}

-- No ring.
pub has_none : (x : ℕ) → has (replicate 30 0) x ≡ false
has_none x =
    false_if (has (replicate 30 0) x)
    (λ e. let t = has_place_lem (replicate 30 0) x e in t.nonzero (sym t.same ∙ get_or-replicate 30 t.place 0 0 t.inside))

-- Quarantine after more have entered it.
entered_elem : (q rs : List ℕ) (x : ℕ) → elem x (entered q rs) ≡ (elem x q || elem x rs)
entered_elem q rs x =
    same_if (elem x (entered q rs)) (elem x q || elem x rs)
    (λ e. ⊎_elim (λ h. or_left (elem x q) (elem x rs) h) (λ h. or_right (elem x q) (elem x rs) h) (entered_from q rs x e))
    (λ e. ⊎_elim (λ h. entered_has q rs x h) (λ h. entered_new q rs x h) (or_cases (elem x q) (elem x rs) e))

-- What a call's end leaves in quarantine, a broken one's apart.
pub marked_quarantined : (a : Answer) (d : Device) → quarantined_of (marked a d) ≡ quarantined_of d
unfolding marked unusable quarantined_of
marked_quarantined a d = go (is_lost a)
  where
    go : (b : Bool) → quarantined_of (cond b (unusable d) d) ≡ quarantined_of d
    go true = refl
    go false = refl

either_quarantined :
    (b : Bool) (x y d : Device) → (b ≡ true → quarantined_of x ≡ quarantined_of d) → (b ≡ false → quarantined_of y ≡ quarantined_of d) →
    quarantined_of (cond b x y) ≡ quarantined_of d
either_quarantined true x y d e f = e refl
either_quarantined false x y d e f = f refl

pub claim_keeps :
    (d : Device) (i a : ℕ) (rings : List ℕ) (e : End) → (e.moved ≡ false → (e.doubted && is_lost e.answer) ≡ false) →
    quarantined_of (claim_record d i a rings e) ≡ quarantined_of d
unfolding claim_record quarantines with_held with_endpoints quarantined_of
claim_keeps d i a rings e n =
    marked_quarantined e.answer _ ∙ either_quarantined e.moved _ _ d (λ t. refl) (λ t. rw (n t) refl)

pub release_keeps : (d : Device) (i : ℕ) (e : End) → quarantined_of (release_record d i e) ≡ quarantined_of d
unfolding release_record with_held with_endpoints quarantined_of
release_keeps d i e = marked_quarantined e.answer _ ∙ either_quarantined e.moved _ _ d (λ t. refl) (λ t. refl)

pub set_keeps : (d : Device) (value : ℕ) (e : End) → (e.moved ≡ true → is_lost e.answer ≡ false) →
    quarantined_of (set_record d value e) ≡ quarantined_of d
unfolding set_record bare ended_by quarantines with_held with_endpoints with_configuration quarantined_of
set_keeps d value e n =
    marked_quarantined e.answer _
    ∙ either_quarantined e.moved _ _ d
    (λ t.
    either_quarantined (is_accepted e.answer) _ _ d (λ a. refl)
    (λ a. either_quarantined (is_lost e.answer) _ _ d (λ l. not_both (is_lost e.answer) l (n t)) (λ l. refl)))
    (λ t. refl)

-- A sound record that agrees with some groups.
module _ (d : Device) (s : sound d ≡ true) (g : Groups) (a : AgreeWith d g) where
  abbrev c : EndpointMap
  c = endpoint_map_in d

  long : length c.rings ≡ 30
  long = (sound_clean d s).whole.rings

  -- An endpoint's ring is not control's.
  not_control : (x : ℕ) → has c.rings x ≡ true → eqb x d.control ≡ false
  not_control x e =
      let t = has_place_lem c.rings x e in
      ne_eqb x d.control
      (λ z. (sound_apart d s).other t.place (omega (arith, t.inside, long)) (λ w. t.nonzero (sym t.same ∙ w)) (t.same ∙ z))

  -- The groups beside another record of d's.
  moved :
      (e : Device) (hs : List Held) (m : EndpointMap) (lost : Bool) → Made d e hs m lost → (h : Groups) (v q : ℕ → Bool) →
      ((x : ℕ) → (has m.rings x || eqb x d.control) ≡ v x) → ((x : ℕ) → elem x (quarantined_of e) ≡ q x) →
      Agree (given_of d) v q h → AgreeWith e h
  unfolding used_by in_doubt
  moved e hs m lost y h v q used doubted b =
      rw y.same.given
      (agree_same (given_of d) v q (used_by e) (in_doubt e) h b (λ x. rw (y.endpoints, y.same.control) (used x)) doubted)

  -- An unplugging that is broken.
  pub agree_unplugged :
      (e : Device) (hs : List Held) (m : EndpointMap) (lost : Bool) → Made d e hs m lost → m.rings ≡ c.rings →
      quarantined_of e ≡ entered (quarantined_of d) (rings_in_doubt d) → AgreeWith e (doubted_groups g)
  unfolding rings_in_doubt used_by in_doubt elem
  agree_unplugged e hs m lost y r q =
      moved e hs m lost y (doubted_groups g) (used_by d) (λ x. in_doubt d x || used_by d x) (λ x. rw r refl)
      (λ x.
      rw (q, entered_elem (quarantined_of d) (d.control ∷ queue_rings (queues_of c.rings)) x, queue_has c.rings x long)
      (law (λ a b c d e. true) (λ a b c d e. a || (b || c)) (λ a b c d e. a || (c || b)) refl (elem x (quarantined_of d)) (eqb x d.control) (has c.rings x) false false refl))
      (agree_doubted (given_of d) (used_by d) (in_doubt d) g a (λ x. false) (λ x. false) (λ x n. not_both false n refl) (λ x n. not_both false n refl)
      (λ x. in_doubt d x || used_by d x) (λ x. refl))

  module _ (u : d.usable ≡ true) where
    none_doubted : (x : ℕ) → in_doubt d x ≡ false
    unfolding in_doubt elem
    none_doubted x = rw (none_quarantined d u s) refl

    -- An endpoint's ring is live.
    live_ring : (x : ℕ) → has c.rings x ≡ true → (elem x (given_of d) && (used_by d x && not (in_doubt d x))) ≡ true
    unfolding used_by
    live_ring x e =
        let used : (has c.rings x || eqb x d.control) ≡ true = or_left (has c.rings x) (eqb x d.control) e in
        rw (used_given d s x used, used, none_doubted x)

    -- Settings end: those whose rings `old` are.
    pub agree_ended :
        (e : Device) (hs : List Held) (m : EndpointMap) (lost : Bool) → Made d e hs m lost → quarantined_of e ≡ quarantined_of d →
        (old : List Queue) (o : ℕ → Bool) → ((x : ℕ) → keeps x old ≡ o x) → ((x : ℕ) → o x ≡ true → has c.rings x ≡ true) →
        ((x : ℕ) → has m.rings x ≡ (has c.rings x && not (o x))) → AgreeWith e (returned_groups old g)
    unfolding used_by in_doubt
    agree_ended e hs m lost y q old o kept among made =
        moved e hs m lost y (returned_groups old g) (λ x. used_by d x && not (o x)) (in_doubt d)
        (λ x.
        rw (made x)
        (law (λ b k o d e. implies o (not k)) (λ b k o d e. (b && not o) || k) (λ b k o d e. (b || k) && not o) refl
        (has c.rings x) (eqb x d.control) (o x) false false
        (implies_if (o x) (not (eqb x d.control)) (λ h. ap not (not_control x (among x h))))))
        (λ x. rw q refl)
        (agree_returned (given_of d) (used_by d) (in_doubt d) g a (λ x. false) o (λ x n. not_both false n refl) (λ x h. live_ring x (among x h))
        old (λ x. used_by d x && not (o x)) kept (λ x. refl))

    -- All settings end.
    pub agree_bare :
        (e : Device) (hs : List Held) (lost : Bool) → Made d e hs no_endpoints lost → quarantined_of e ≡ quarantined_of d →
        (old : List Queue) → ((x : ℕ) → keeps x old ≡ has c.rings x) → AgreeWith e (returned_groups old g)
    unfolding no_endpoints
    agree_bare e hs lost y q old kept =
        agree_ended e hs no_endpoints lost y q old (has c.rings) kept (λ x h. h) (λ x. has_none x ∙ sym (and-not_self (has c.rings x)))

    -- All settings end, in a call that is lost.
    pub agree_bare_lost :
        (e : Device) (hs : List Held) (lost : Bool) → Made d e hs no_endpoints lost → quarantined_of e ≡ queue_rings (queues_of c.rings) →
        (old : List Queue) → ((x : ℕ) → keeps x old ≡ has c.rings x) → AgreeWith e (ended_groups old g)
    unfolding no_endpoints used_by in_doubt
    agree_bare_lost e hs lost y q old kept =
        let o = has c.rings in
        moved e hs no_endpoints lost y (ended_groups old g) (λ x. used_by d x && not (o x)) (λ x. in_doubt d x || o x)
        (λ x.
        rw (has_none x)
        (law (λ b k o d e. implies b (not k)) (λ b k o d e. k) (λ b k o d e. (b || k) && not b) refl (o x) (eqb x d.control) false false false
        (implies_if (o x) (not (eqb x d.control)) (λ h. ap not (not_control x h)))))
        (λ x. rw (q, queue_has c.rings x long, none_doubted x) refl)
        (agree_lost (given_of d) (used_by d) (in_doubt d) g a (λ x. false) o (λ x n. not_both false n refl) live_ring
        old (λ x. used_by d x && not (o x)) (λ x. in_doubt d x || o x) kept (λ x. refl) (λ x. refl))

    -- One setting ends.
    pub agree_released :
        (i : ℕ) (e : Device) (hs : List Held) (lost : Bool) → Made d e hs (claimed_endpoints i (replicate PLACES 0) c) lost →
        quarantined_of e ≡ quarantined_of d → (old : List Queue) → ((x : ℕ) → keeps x old ≡ has (owned_rings (Interface i) c) x) →
        AgreeWith e (returned_groups old g)
    agree_released i e hs lost y q old kept =
        agree_ended e hs (claimed_endpoints i (replicate PLACES 0) c) lost y q old (has (owned_rings (Interface i) c)) kept
        (owned_has (Interface i) c long)
        (λ x.
        claimed_has i (replicate 30 0) c long refl (sound_apart d s).different
        (λ p h z o. not_both (eqb (get_or (replicate 30 0) p 0) 0) (rw (get_or-replicate {A = ℕ} 30 p 0 0 h) refl) z) x
        ∙ rw (has_none x) (or-false (has c.rings x && not (has (owned_rings (Interface i) c) x))))

    -- A claim that passed its checks.
    module _ (i w : ℕ) (pass : ClaimPassed d i w) where
      abbrev pending : List ℕ
      pending = pending_rings (setting_words (list_of d) i w) (drawn d i w)

      abbrev words : List ℕ
      words = setting_words (list_of d) i w

      many : length pending ≡ 30
      many = pending_length words (drawn d i w)

      apart : Apart pending d.control (given_of d)
      apart = apart_offered words (drawn d i w) c.rings d.control (quarantined_of d) (given_of d) pass.offer pass.from_given

      -- A pending ring is free.
      pending_free : (x : ℕ) → has pending x ≡ true → (elem x (given_of d) && (not (used_by d x) && not (in_doubt d x))) ≡ true
      unfolding used_by
      pending_free x e =
          let t = has_place_lem pending x e in
          let h : t.place < 30 = omega (arith, t.inside, many) in
          let z : get_or pending t.place 0 ≡ 0 → ⊥ = λ y. t.nonzero (sym t.same ∙ y) in
          let given : elem x (given_of d) ≡ true = ap (λ y. elem y (given_of d)) (sym t.same) ∙ apart.from_given t.place h z in
          let other : eqb x d.control ≡ false = ne_eqb x d.control (λ y. apart.other t.place h z (t.same ∙ y)) in
          let idle : has c.rings x ≡ false =
          false_if (has c.rings x)
          (λ y.
          let r = has_place_lem c.rings x y in
          offered_live words (drawn d i w) c.rings d.control (quarantined_of d) pass.offer long t.place r.place h
          (omega (arith, r.inside, long)) z (t.same ∙ sym r.same)) in
          rw (given, other, idle, none_doubted x)

      module _ (e : Device) (hs : List Held) (lost : Bool) (new : List Queue) (kept : (x : ℕ) → keeps x new ≡ has pending x) where
        -- accepted
        pub agree_accepted :
            Made d e hs (claimed_endpoints i pending c) lost → quarantined_of e ≡ quarantined_of d →
            ((p : ℕ) → p < 30 → eqb (get_or pending p 0) 0 ≡ false → is_owned (Interface i) c p ≡ false → get_or c.rings p 0 ≡ 0) →
            (old : List Queue) → ((x : ℕ) → keeps x old ≡ has (owned_rings (Interface i) c) x) → AgreeWith e (claimed_groups new old g)
        unfolding used_by in_doubt
        agree_accepted y q free old returned =
            let o = has (owned_rings (Interface i) c) in
            moved e hs (claimed_endpoints i pending c) lost y (claimed_groups new old g) (λ x. (used_by d x && not (o x)) || has pending x) (in_doubt d)
            (λ x.
            rw (claimed_has i pending c long many (sound_apart d s).different free x)
            (law (λ b k o n e. implies o (not k)) (λ b k o n e. ((b && not o) || n) || k) (λ b k o n e. ((b || k) && not o) || n) refl
            (has c.rings x) (eqb x d.control) (o x) (has pending x) false
            (implies_if (o x) (not (eqb x d.control)) (λ h. ap not (not_control x (owned_has (Interface i) c long x h))))))
            (λ x. rw q refl)
            (agree_claimed (given_of d) (used_by d) (in_doubt d) g a (has pending) o pending_free (λ x h. live_ring x (owned_has (Interface i) c long x h))
            new old (λ x. (used_by d x && not (o x)) || has pending x) kept returned (λ x. refl))

        -- broken
        pub agree_broke :
            (m : EndpointMap) → Made d e hs m lost → m.rings ≡ c.rings → quarantined_of e ≡ queue_rings (queues_of pending) →
            AgreeWith e (broken_groups new g)
        unfolding used_by in_doubt
        agree_broke m y r q =
            moved e hs m lost y (broken_groups new g) (used_by d) (λ x. in_doubt d x || has pending x) (λ x. rw r refl)
            (λ x. rw (q, queue_has pending x many, none_doubted x) refl)
            (agree_broken (given_of d) (used_by d) (in_doubt d) g a (has pending) (λ x. false) pending_free (λ x n. not_both false n refl)
            new (λ x. in_doubt d x || has pending x) kept (λ x. refl))
