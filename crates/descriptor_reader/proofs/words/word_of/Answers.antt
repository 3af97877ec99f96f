use Rattle.descriptor_reader.specs.Walk.{made_words}
use Rattle.descriptor_reader.proofs.Judged.{configuration_words, interface_words, endpoint_words, companion_words, companion_nothing, other_words}
use Rattle.descriptor_reader.proofs.words.word_of.Goals as goal

pub returns-in-Configuration : goal.returns-in-Configuration
unfolding made_words
returns-in-Configuration c = rw (configuration_words c.args.d.companions _ _ c.kind.ensures c.in-Configuration.is, c.configuration_word.ensures)

pub returns-in-Interface : goal.returns-in-Interface
unfolding made_words
returns-in-Interface c = rw (interface_words c.args.d.companions _ _ c.kind.ensures c.in-Interface.is, c.alternate_word.ensures)

pub returns-in-Endpoint : goal.returns-in-Endpoint
unfolding made_words
returns-in-Endpoint c = rw (endpoint_words c.args.d.companions _ _ c.kind.ensures c.in-Endpoint.is, c.endpoint_word.ensures, c.two_bytes.ensures)

pub returns-in-Other : goal.returns-in-Other
unfolding made_words
returns-in-Other c = rw (other_words c.args.d.companions _ _ c.kind.ensures c.in-Other.is)

pub returns-else-d : goal.returns-else-d
unfolding made_words
returns-else-d c = rw (companion_nothing c.args.d.companions _ _ c.kind.ensures c.in-Companion.is c.if-d.false)

pub returns-then-d : goal.returns-then-d
unfolding made_words
returns-then-d c =
    rw (
      companion_words c.args.d.companions _ _ c.kind.ensures c.in-Companion.is c.if-d.true,
      c.companion_word.ensures,
      c.two_bytes-then-d.ensures,
    )
