use mathlib.Core.Path.{sym, ◌∙◌}
use Rattle.descriptor_writer.proofs.Exits.{too_short, not_known, not_ok, not_paired, not_given, may_write, all_written}
use Rattle.descriptor_writer.proofs.write_descriptors.Goals as goal

pub returns-then-bytes-lt-WRITE_BYTES : goal.returns-then-bytes-lt-WRITE_BYTES
returns-then-bytes-lt-WRITE_BYTES c = too_short _ _ _ c.if-bytes-lt-WRITE_BYTES.true

pub returns-then-not-speed_known : goal.returns-then-not-speed_known
returns-then-not-speed_known c = not_known _ _ _ c.if-bytes-lt-WRITE_BYTES.false (sym c.speed_known.ensures ∙ c.if-not-speed_known.true)

pub returns-then-not-list_ok : goal.returns-then-not-list_ok
returns-then-not-list_ok c =
    not_ok _ _ _ c.if-bytes-lt-WRITE_BYTES.false (sym c.speed_known.ensures ∙ c.if-not-speed_known.false) (sym c.list_ok.ensures ∙ c.if-not-list_ok.true)

pub returns-then-not-companions_fit : goal.returns-then-not-companions_fit
returns-then-not-companions_fit c =
    not_paired _ _ _ c.if-bytes-lt-WRITE_BYTES.false (sym c.speed_known.ensures ∙ c.if-not-speed_known.false)
    (sym c.list_ok.ensures ∙ c.if-not-list_ok.false) (sym c.companions_fit.ensures ∙ c.if-not-companions_fit.true)

pub returns-then-not-packets_given : goal.returns-then-not-packets_given
returns-then-not-packets_given c =
    not_given _ _ _ c.if-bytes-lt-WRITE_BYTES.false
    (sym c.speed_known.ensures ∙ c.if-not-speed_known.false) (sym c.list_ok.ensures ∙ c.if-not-list_ok.false) (sym c.companions_fit.ensures ∙ c.if-not-companions_fit.false)
    (sym c.packets_given.ensures ∙ c.if-not-packets_given.true)

pub put_all-requires : goal.put_all-requires
put_all-requires c = (
  may_write c.args.speed _ c.args.bytes.now c.if-bytes-lt-WRITE_BYTES.false
      (sym c.speed_known.ensures ∙ c.if-not-speed_known.false) (sym c.list_ok.ensures ∙ c.if-not-list_ok.false) (sym c.companions_fit.ensures ∙ c.if-not-companions_fit.false)
      (sym c.packets_given.ensures ∙ c.if-not-packets_given.false),
  c.if-bytes-lt-WRITE_BYTES.false,
)

pub returns : goal.returns
returns c =
    all_written _ _ _ c.if-bytes-lt-WRITE_BYTES.false
    (sym c.speed_known.ensures ∙ c.if-not-speed_known.false) (sym c.list_ok.ensures ∙ c.if-not-list_ok.false) (sym c.companions_fit.ensures ∙ c.if-not-companions_fit.false)
    (sym c.packets_given.ensures ∙ c.if-not-packets_given.false) _ _ c.put_all.ensures
