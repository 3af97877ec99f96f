use mathlib.Core.Path.{◌≡◌, sym, ◌∙◌}
use Rattle.def.specs.Speed.{is_super}
use Rattle.descriptor_reader.proofs.Exits.{returned, too_short, not_known, not_whole, not_borne_out, too_many, taken}
use Rattle.descriptor_reader.proofs.read_descriptors.Goals as goal

pub returns-then-words-lt-READ_WORDS : goal.returns-then-words-lt-READ_WORDS
returns-then-words-lt-READ_WORDS c = too_short _ _ _ c.if-words-lt-READ_WORDS.true

pub returns-then-not-speed_known : goal.returns-then-not-speed_known
returns-then-not-speed_known c = not_known _ _ _ c.if-words-lt-READ_WORDS.false (sym c.speed_known.ensures ∙ c.if-not-speed_known.true)

pub returns-in_err-descriptors : goal.returns-in_err-descriptors
returns-in_err-descriptors c =
    let none = c.in_err-descriptors.ensures.ok_part in
    rw (returned _ _ _ c.from_residual.ensures.1 (rw none at c.in_err-descriptors.ensures.value))
    (not_whole _ _ _ c.if-words-lt-READ_WORDS.false (sym c.speed_known.ensures ∙ c.if-not-speed_known.false)
    (rw c.is_super.ensures at (rw none at c.of.ensures)))

pub returns-then-not-all_borne_out : goal.returns-then-not-all_borne_out
returns-then-not-all_borne_out c =
    let same : c.in_ok-descriptors.descriptors.bytes.now ≡ c.args.bytes.now = (rw c.in_ok-descriptors.ensures.ok_part at c.of.ensures).0 in
    not_borne_out _ _ _ c.if-words-lt-READ_WORDS.false (sym c.speed_known.ensures ∙ c.if-not-speed_known.false)
    (rw same at (sym c.all_borne_out.ensures ∙ c.if-not-all_borne_out.true))

pub returns-in_err-count : goal.returns-in_err-count
returns-in_err-count c =
    let of = rw c.in_ok-descriptors.ensures.ok_part at c.of.ensures in
    let same : c.in_ok-descriptors.descriptors.bytes.now ≡ c.args.bytes.now = of.0 in
    let flag : c.in_ok-descriptors.descriptors.companions ≡ is_super c.args.speed = of.1 ∙ c.is_super.ensures in
    let none = c.in_err-count.ensures.ok_part in
    rw (returned _ _ _ c.from_residual-in_err-count.ensures.1 (rw none at c.in_err-count.ensures.value))
    (too_many _ _ _ c.if-words-lt-READ_WORDS.false (sym c.speed_known.ensures ∙ c.if-not-speed_known.false)
    (rw (same, flag) at c.in_ok-descriptors.descriptors.whole)
    (rw same at (sym c.all_borne_out.ensures ∙ c.if-not-all_borne_out.false))
    (rw (same, flag) at (rw none at c.gather.ensures)))

pub returns : goal.returns
returns c =
    let of = rw c.in_ok-descriptors.ensures.ok_part at c.of.ensures in
    let same : c.in_ok-descriptors.descriptors.bytes.now ≡ c.args.bytes.now = of.0 in
    let flag : c.in_ok-descriptors.descriptors.companions ≡ is_super c.args.speed = of.1 ∙ c.is_super.ensures in
    let all = rw c.in_ok-count.ensures.ok_part at c.gather.ensures in
    c.take_list.ensures
    ∙ taken _ _ _ c.if-words-lt-READ_WORDS.false (sym c.speed_known.ensures ∙ c.if-not-speed_known.false)
    (rw (same, flag) at c.in_ok-descriptors.descriptors.whole)
    (rw same at (sym c.all_borne_out.ensures ∙ c.if-not-all_borne_out.false))
    _ (rw (same, flag) at c.bursts_fit-fit.ensures) _ (rw (same, flag) at all.1)
