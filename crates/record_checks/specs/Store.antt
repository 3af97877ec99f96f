-- The given rings of a record, beside those in use.
use Rattle.std.specs.Prelude.{ℕ, Bool, ◌&&◌, List}
use Rattle.record_ring.specs.Store.{given_ok, among}

-- They are such as may be given; live, control's and quarantined ones are among them.
abbrev pub sound_store : List ℕ → List ℕ → List ℕ → Bool
sound_store given live quarantined = given_ok given && (among live given && among quarantined given)
