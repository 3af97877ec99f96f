-- At speeds 1 to 3 reader and writer are those without companions: `BeforePromise`.
use Prim.Native.Nat.{ℕ}
use mathlib.Core.Path.{◌≡◌, refl, ap, ◌∙◌}
use mathlib.Core.Logic.{inl, inr}
use mathlib.Core.Bool.{true, false}
use mathlib.Core.List.{List, [], ◌∷◌}
use borrow.Author.Tests.{eqb-true}
use lib.Dec.{eqb, leb}
use lib.ListN.{length}
use Rattle.laws.proofs.Tests.{and_left, and_right, not_both}
use Rattle.laws.proofs.Cases.{Decided, decided}
use Rattle.descriptor.specs.Word.{kind, word_ok, COMPANION}
use Rattle.descriptor_list.specs.Valid.{begins_with_configuration, words_ok, valid_list}
use Rattle.descriptor_list.proofs.Companions.{before_promise}
use Rattle.function_answer.specs.declared.Refusal.TheVariants.{TooShort, DescriptorList, Malformed}
use Rattle.function_answer.specs.Answer.{accepts, unless}
use Rattle.descriptor_raw.specs.Descriptor.{size_of}
use Rattle.descriptor_raw.specs.Read.{descriptors, whole, all_whole, well_formed, words_of, all_words, read_words, burst_fits, bursts_fit, read_descriptors}
use Rattle.descriptor_raw.specs.Write.{configuration_descriptor, interface_descriptor, endpoint_bytes, descriptor_of, all_descriptors, joined, written_bytes, packets_given, write_descriptors}
use Rattle.descriptor_raw.specs.Promises.{BeforePromise}
use Rattle.descriptor_raw.specs.Before as before
use Rattle.descriptor_raw.proofs.Written.{none_settled}

whole_same : (ds : List (List ℕ)) → all_whole false ds ≡ before.all_whole ds
unfolding all_whole before.all_whole whole before.whole size_of before.size_of
whole_same [] = refl
whole_same (d ∷ ds) = rw (whole_same ds)

words_same : (ds : List (List ℕ)) → all_words false ds ≡ before.all_words ds
unfolding all_words before.all_words words_of before.words_of
words_same [] = refl
words_same (d ∷ ds) = rw (words_same ds)

no_bursts : (ds : List (List ℕ)) → bursts_fit false ds ≡ true
unfolding burst_fits bursts_fit
no_bursts [] = refl
no_bursts (d ∷ ds) = no_bursts ds

read_same : (bytes : List ℕ) → read_words false bytes ≡ before.read_words bytes
unfolding read_words before.read_words
read_same bytes = none_settled 0 _ ∙ words_same (descriptors bytes)

descriptor_same : (w : ℕ) (after : List (List ℕ)) → eqb (kind w) COMPANION ≡ false → descriptor_of w after ≡ before.descriptor_of w after
unfolding descriptor_of before.descriptor_of configuration_descriptor before.configuration_descriptor interface_descriptor before.interface_descriptor endpoint_bytes before.endpoint_bytes size_of before.size_of
descriptor_same w after e = rw e

no_companion : (w : ℕ) → word_ok w ≡ true → eqb (kind w) COMPANION ≡ false
unfolding word_ok
no_companion w e = go (decided (eqb (kind w) COMPANION))
  where
    go : Decided (eqb (kind w) COMPANION) → eqb (kind w) COMPANION ≡ false
    go (inl p) = let f : false ≡ true = rw (eqb-true (kind w) COMPANION p) at e in not_both false f refl
    go (inr p) = p

descriptors_same : (l : List ℕ) → words_ok l ≡ true → all_descriptors l ≡ before.all_descriptors l
unfolding all_descriptors before.all_descriptors words_ok
descriptors_same [] e = refl
descriptors_same (w ∷ l) e =
    let rest = descriptors_same l (and_right (word_ok w) _ e) in
    rw (descriptor_same w (all_descriptors l) (no_companion w (and_left (word_ok w) _ e)), rest)

written_same : (l : List ℕ) → valid_list l ≡ true → written_bytes l ≡ before.written_bytes l
unfolding written_bytes before.written_bytes valid_list
written_same l v =
    ap joined
    (descriptors_same l (and_left (words_ok l) _ (and_right (begins_with_configuration l) _ (and_right (leb (length l) 256) _ v))))

before_lem : BeforePromise
unfolding read_descriptors before.read_descriptors write_descriptors before.write_descriptors well_formed before.well_formed
before_lem speed given buffer k s =
    let words = before.read_words given in (
      rw (
        k,
        s,
        whole_same (descriptors given),
        read_same given,
        no_bursts (descriptors given),
        (before_promise speed words s).list,
        (before_promise speed words s).companions,
      ),
      rw (k, (before_promise speed given s).list, (before_promise speed given s).companions) (go (decided (valid_list given))),
    )
  where
    go : Decided (valid_list given) →
        unless (leb 2304 (length buffer)) TooShort buffer
        (unless (valid_list given) DescriptorList buffer (unless (packets_given given) Malformed buffer (accepts (written_bytes given) buffer)))
        ≡ unless (leb 2304 (length buffer)) TooShort buffer
        (unless (valid_list given) DescriptorList buffer (unless (packets_given given) Malformed buffer (accepts (before.written_bytes given) buffer)))
    go (inl v) = rw (written_same given v)
    go (inr v) = rw v
