-- The alternates of a choice can be claimed one after the other.
use Rattle.std.specs.Prelude.{ℕ, zero, suc, ◌+◌, ◌<◌, ◌≤◌, ◌≡◌, true, false, ◌&&◌, Option, Some, None, List, [], ◌∷◌, eqb, ltb, length, get_or}
use mathlib.Core.Path.{refl, sym, ap, ◌∙◌}
use mathlib.Core.Logic.{inl, inr}
use native.Mathlib.Omega.{arith}
use native.Mathlib.Numerals.{add-one}
use native.Mathlib.Decide.{ℕ_discrete}
use borrow.Author.Tests.{eq-eqb}
use Rattle.laws.proofs.Tests.{and_left, and_right, and-true, not_both}
use Rattle.laws.proofs.Cases.{Decided, decided, or_left, or_right}
use Rattle.descriptor.specs.Word.{alternate_setting, endpoint_descriptor}
use Rattle.descriptor_list.specs.declared.EndpointWords.{EndpointWords}
use Rattle.descriptor_list.specs.Lookup.{of_interface, find_endpoints}
use Rattle.record_settings.specs.Held.{held_in, is_held, alternate_of, setting_words, with_setting, is_found}
use Rattle.answer.specs.declared.Answer.{Answer}
use Rattle.answer.specs.declared.Answer.TheVariants as answer
use Rattle.answer.specs.Answer.{number}
use Rattle.descriptor_list.specs.Companions.{joined}
use Rattle.device.specs.declared.record.Device.{Device}
use Rattle.device.specs.Device.{words_of, list_of, held_of}
use Rattle.device.specs.Sound.{sound}
use Rattle.device.specs.Claim.{claim}
use Rattle.device.proofs.Facts.{sound_facts}
use Rattle.choice_list.specs.Candidate.{first_length, all_short, found_at, words_at, is_candidate, has_address}
use Rattle.choice_list.specs.Choice.{Choice, alternate_at}
use Rattle.choice.specs.Promises.{Promised}
use Rattle.choice.proofs.Promises.{keeps}
use Rattle.record_settings.proofs.Laws.{sound_distinct}
use Rattle.theorem_slot.specs.Call.{Buffers, claims, left}
use Rattle.theorem_checks.specs.Descriptors.{address_of, Listed}
use Rattle.theorem_checks.specs.Record.{list_in, Belongs}
use Rattle.theorem_checks.specs.Checks.{FirstFails, Gives, IsListed, NoneOwned, claim_conditions, conditions}
use Rattle.theorem_checks.proofs.Descriptors.{lookup_tells}
use Rattle.theorem_checks.proofs.Record.{word_address, holds_held, holds_one, sound_tells}
use Rattle.theorem_checks.proofs.Checks.{pass_exactly}
use Rattle.theorem_choice.specs.Claims.{ClaimedUpTo, Claimable, ChoiceClaimed}
use Rattle.theorem_choice.proofs.Held.{Which, its, other, which}
use Rattle.theorem_choice.proofs.Accepted.{TakenIn, taken_in}

-- Where both conditions hold, neither is the first that fails.
module _ (d : Device) (i a : ℕ) (listed : IsListed d i a) (none_owned : NoneOwned d i a) (ctx routes log outcomes : List ℕ) where
  abbrev buffers : Buffers
  buffers = record { ctx = ctx; log = log; outcomes = outcomes }

  differ : {P : Type 0} (x y : Answer) → (number x ≡ number y → ⊥) → x ≡ y → P
  differ x y n e = absurd (n (ap number e))

  abbrev refused_by : (z : Answer) → Gives (conditions (claims i a) buffers d routes) z → (claim d ctx routes log outcomes i a).answer ≡ z →
      FirstFails (conditions (claims i a) buffers d routes) z
  unfolding left
  refused_by z g e = (pass_exactly (record { asked = claims i a; buffers = buffers }) d routes).refused_by z g e

  not_found : (claim d ctx routes log outcomes i a).answer ≡ answer.NotFound → ⊥
  unfolding conditions Gives FirstFails number
  not_found e = fit (refused_by answer.NotFound (inr (inr (inr (inr (inl refl))))) e)
    where
      own : FirstFails (claim_conditions d i a []) answer.NotFound → ⊥
      own (inl f) = f.0 listed
      own (inr (h, inl f)) = differ answer.InvalidParameter answer.NotFound (λ x. omega arith) f.1
      own (inr (h, inr (g, inl f))) = differ answer.TooFewRings answer.NotFound (λ x. omega arith) f.1
      own (inr (h, inr (g, inr (m, f)))) = f

      fit : FirstFails (conditions (claims i a) buffers d routes) answer.NotFound → ⊥
      fit (inl f) = differ answer.Unusable answer.NotFound (λ x. omega arith) f.1
      fit (inr (h, inl f)) = differ answer.ContextLength answer.NotFound (λ x. omega arith) f.1
      fit (inr (h, inr (g, inl f))) = differ answer.RoutesLength answer.NotFound (λ x. omega arith) f.1
      fit (inr (h, inr (g, inr (m, inl f)))) = differ answer.LogTooShort answer.NotFound (λ x. omega arith) f.1
      fit (inr (h, inr (g, inr (m, inr (l, f))))) = own f

  not_owned : (claim d ctx routes log outcomes i a).answer ≡ answer.InvalidParameter → ⊥
  unfolding conditions Gives FirstFails number
  not_owned e = fit (refused_by answer.InvalidParameter (inr (inr (inr (inr (inr (inl refl)))))) e)
    where
      own : FirstFails (claim_conditions d i a []) answer.InvalidParameter → ⊥
      own (inl f) = f.0 listed
      own (inr (h, inl f)) = f.0 none_owned
      own (inr (h, inr (g, inl f))) = differ answer.TooFewRings answer.InvalidParameter (λ x. omega arith) f.1
      own (inr (h, inr (g, inr (m, f)))) = f

      fit : FirstFails (conditions (claims i a) buffers d routes) answer.InvalidParameter → ⊥
      fit (inl f) = differ answer.Unusable answer.InvalidParameter (λ x. omega arith) f.1
      fit (inr (h, inl f)) = differ answer.ContextLength answer.InvalidParameter (λ x. omega arith) f.1
      fit (inr (h, inr (g, inl f))) = differ answer.RoutesLength answer.InvalidParameter (λ x. omega arith) f.1
      fit (inr (h, inr (g, inr (m, inl f)))) = differ answer.LogTooShort answer.InvalidParameter (λ x. omega arith) f.1
      fit (inr (h, inr (g, inr (m, inr (l, f))))) = own f

has_word : (words : List ℕ) (k : ℕ) → k < length words → has_address (address_of (get_or words k 0)) words ≡ true
unfolding has_address
has_word [] k h = absurd (omega arith)
has_word (w ∷ ws) zero h = or_left _ (has_address (address_of w) ws) (eq-eqb (endpoint_descriptor w).address (address_of w) (word_address w))
has_word (w ∷ ws) (suc k) h = or_right (eqb (endpoint_descriptor w).address (address_of (get_or ws k 0))) _ (has_word ws k (omega arith))

is_there : (place : ℕ) (o : Option EndpointWords) → found_at place o ≡ true → is_found o ≡ true
unfolding found_at
is_there place (Some f) e = refl
is_there place None e = not_both false e refl

candidate_found : (list : List ℕ) (speed longest i p : ℕ) → is_candidate list speed longest i p ≡ true →
    is_found (find_endpoints list i (alternate_setting (get_or list p 0))) ≡ true
unfolding is_candidate
candidate_found list speed longest i p e =
    let w = get_or list p 0 in
    let short = all_short speed longest (words_at list i p) in
    let there = found_at p (find_endpoints list i (alternate_setting w)) in
    is_there p (find_endpoints list i (alternate_setting w))
    (and_left there short (and_right (of_interface i w) (there && short) (and_right (ltb p (first_length list)) (of_interface i w && (there && short)) e)))

module _ (d : Device) (names alternates places : List ℕ) (longest : ℕ) (c : Choice (list_of d) d.port_speed longest names places)
    (are : (j : ℕ) → j < length names → get_or alternates j 0 ≡ alternate_at (list_of d) (get_or places j 0)) where
  abbrev name : ℕ → ℕ
  name j = get_or names j 0

  abbrev alternate : ℕ → ℕ
  alternate j = get_or alternates j 0

  -- A setting is one of the first n that were claimed.
  record Among (n i a : ℕ) : Type 0 where
    at : ℕ
    below : at < n
    interface_is : name at ≡ i
    alternate_is : alternate at ≡ a

  -- A record after n accepted claims.
  record After (n : ℕ) (e : Device) : Type 0 where
    is_sound : sound e ≡ true
    list : list_of e ≡ list_of d
    settings : (i : ℕ) → is_held i (held_of e) ≡ true → Among n i (alternate_of i (held_of e))

  begins : sound d ≡ true → d.held_count ≡ 0 → After 0 d
  unfolding held_of held_in is_held
  begins s z = record { is_sound = s; list = refl; settings = λ i h. not_both false (rw z at h) refl }

  one_more : (n : ℕ) (e g : Device) → After n e → TakenIn e g (name n) (alternate n) → After (n + 1) g
  unfolding list_of
  one_more n e g s t =
      record {
        is_sound = t.is_sound;
        list = ap joined t.same.list ∙ s.list;
        settings = λ i h. rw t.held (settings i (which (name n) (alternate n) i (held_of e) (rw t.held at h)));
      }
    where
      settings : (i : ℕ) → Which (name n) (alternate n) (held_of e) (with_setting (name n) (alternate n) (held_of e)) i →
          Among (n + 1) i (alternate_of i (with_setting (name n) (alternate n) (held_of e)))
      settings i (its q r) = record { at = n; below = omega arith; interface_is = sym q; alternate_is = sym r }
      settings i (other h r) =
          let m = s.settings i h in
          let b = m.below in
          record { at = m.at; below = omega arith; interface_is = m.interface_is; alternate_is = m.alternate_is ∙ sym r }

  after : (records : ℕ → Device) (n : ℕ) → sound d ≡ true → d.held_count ≡ 0 → ClaimedUpTo d names alternates n records →
      (k : ℕ) → k ≤ n → After k (records k)
  after records n s z l zero h = rw l.start (begins s z)
  after records n s z l (suc k) h =
      let m = l.each k (omega arith) in
      rw (← add-one k) (rw m.left at (one_more k (records k) _ (after records n s z l k (omega arith)) (taken_in (records k) m.ctx m.routes m.log m.outcomes (name k) (alternate k) m.accepted)))

  module _ (n : ℕ) (h : n < length names) (e : Device) (s : After n e) where
    list_is : list_in e ≡ list_of d
    unfolding words_of list_of
    list_is = s.list

    is_listed : IsListed e (name n) (alternate n)
    is_listed =
        record {
          words = setting_words (list_in e) (name n) (alternate n);
          listed = (lookup_tells (list_in e) (name n) (alternate n)).found (rw (list_is, are n h) (candidate_found (list_of d) d.port_speed longest (name n) (get_or places n 0) (c.each n h)));
        }

    -- The words of an alternate that the choice has are those of its place.
    same_words : (j : ℕ) → j < length names → (words : List ℕ) → Listed (list_in e) (name j) (alternate j) words →
        words_at (list_of d) (name j) (get_or places j 0) ≡ words
    unfolding words_at
    same_words j g words l =
        rw (are j g) at (rw list_is at ((lookup_tells (list_in e) (name j) (alternate j)).listed words l).1)

    clash : (owner : ℕ) → (owner ≡ name n → ⊥) → (words : List ℕ) → Listed (list_in e) (name n) (alternate n) words → (k : ℕ) → k < length words →
        (b : Belongs e (address_of (get_or words k 0)) owner) → Among n owner b.alternate → ⊥
    clash owner q words l k g b m =
        let a = address_of (get_or words k 0) in
        let below = m.below in
        let i : m.at < length names = omega arith in
        let theirs : words_at (list_of d) (name m.at) (get_or places m.at 0) ≡ b.words = same_words m.at i b.words (rw (m.interface_is, m.alternate_is) b.listed) in
        let first : has_address a (words_at (list_of d) (name m.at) (get_or places m.at 0)) ≡ true = rw theirs (rw b.same at (has_word b.words b.at b.inside)) in
        let second : has_address a (words_at (list_of d) (name n) (get_or places n 0)) ≡ true = rw (same_words n h words l) (has_word words k g) in
        not_both (has_address a (words_at (list_of d) (name m.at) (get_or places m.at 0)) && has_address a (words_at (list_of d) (name n) (get_or places n 0)))
        (and-true (has_address a (words_at (list_of d) (name m.at) (get_or places m.at 0))) _ first second)
        (c.apart m.at n a i h (λ z. q (sym m.interface_is ∙ z)))

    none_owned : NoneOwned e (name n) (alternate n)
    none_owned words l k g j owner ring t = go (ℕ_discrete owner (name n))
      where
        b : Belongs e (address_of (get_or words k 0)) owner
        b = ((sound_tells e).0 s.is_sound).no_others j _ owner ring t

        held : alternate_of owner (held_of e) ≡ b.alternate
        held = holds_one e (sound_distinct (list_of e) (held_of e) (sound_facts e s.is_sound).settings) owner b.alternate b.held

        go : Dec (owner ≡ name n) → owner ≡ name n
        go (yes q) = q
        go (no q) = absurd (clash owner q words l k g b (rw held at (s.settings owner (holds_held e owner b.alternate b.held))))

    claimable : Claimable e (name n) (alternate n)
    claimable =
        record {
          listed = is_listed;
          none_owned = none_owned;
          found = λ ctx routes log outcomes. not_found e (name n) (alternate n) is_listed none_owned ctx routes log outcomes;
          not_owned = λ ctx routes log outcomes. not_owned e (name n) (alternate n) is_listed none_owned ctx routes log outcomes;
        }

pub choice_claimed : ChoiceClaimed
choice_claimed d names longest r a accepted z n h records l =
    let p = keeps d names longest r a in
    let t = p.chosen accepted in
    claimable d names r.alternates t.places longest t.first.choice t.alternates n h (records n)
    (after d names r.alternates t.places longest t.first.choice t.alternates records n (is_sound p (decided (d.usable && sound d))) z l n (omega arith))
  where
    is_sound : Promised d names longest r → Decided (d.usable && sound d) → sound d ≡ true
    is_sound p (inl e) = and_right d.usable (sound d) e
    is_sound p (inr e) = absurd (twelve (p.unusable.1 e) accepted)
      where
        twelve : r.answer ≡ 12 → r.answer ≡ 0 → ⊥
        twelve q w = omega (arith, q, w)
