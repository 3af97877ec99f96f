-- The settings that a record holds: the map `interface_alternates` of the original, as arrays beside their count.
use Rattle.std.specs.Prelude.{ℕ, zero, suc, ◌≡◌, Bool, true, false, cond, ◌&&◌, ◌||◌, List, [], ◌∷◌, ◌++◌, Option, Some, None, is_some, eqb, length, get_or, take, drop}
use Rattle.laws.specs.Distinct.{distinct}
use Rattle.descriptor_list.specs.declared.EndpointWords.{EndpointWords}
use Rattle.descriptor_list.specs.Lookup.{find_endpoints}
use Rattle.record_endpoint.specs.Endpoint.{padded}
use Rattle.record_settings.specs.declared.held.Settings.{Settings}
pub use Rattle.record_settings.specs.Room.{HELD-ROOM}

-- An interface and the alternate that it holds.
pub record Held : Type 0 where
  pub interface : ℕ
  pub alternate : ℕ

-- The first n settings of the arrays.
unfoldable pub held_in : ℕ → List ℕ → List ℕ → List Held
held_in zero interfaces alternates = []
held_in (suc n) interfaces alternates =
    record { interface = get_or interfaces 0 0; alternate = get_or alternates 0 0 } ∷ held_in n (drop 1 interfaces) (drop 1 alternates)

-- The settings of the code's arrays.
abbrev pub held_by : Settings → List Held
held_by s = held_in s.count s.interfaces s.alternates

unfoldable pub interfaces_of : List Held → List ℕ
interfaces_of [] = []
interfaces_of (h ∷ hs) = h.interface ∷ interfaces_of hs

unfoldable pub alternates_of : List Held → List ℕ
alternates_of [] = []
alternates_of (h ∷ hs) = h.alternate ∷ alternates_of hs

unfoldable pub is_held : ℕ → List Held → Bool
is_held i [] = false
is_held i (h ∷ hs) = eqb h.interface i || is_held i hs

-- The alternate that an interface holds, 0 where it holds none.
unfoldable pub alternate_of : ℕ → List Held → ℕ
alternate_of i [] = 0
alternate_of i (h ∷ hs) = cond (eqb h.interface i) h.alternate (alternate_of i hs)

-- The same, nothing where it holds none.
unfoldable pub held_alternate : ℕ → List Held → Option ℕ
held_alternate i [] = None
held_alternate i (h ∷ hs) = cond (eqb h.interface i) (Some h.alternate) (held_alternate i hs)

-- Without an interface's setting, and with it as the last one.
unfoldable pub without_setting : ℕ → List Held → List Held
without_setting i [] = []
without_setting i (h ∷ hs) = cond (eqb h.interface i) (without_setting i hs) (h ∷ without_setting i hs)

unfoldable pub with_setting : ℕ → ℕ → List Held → List Held
with_setting i a hs = without_setting i hs ++ (record { interface = i; alternate = a } ∷ [])

-- The endpoint words of a setting that lookup finds; none where it finds none.
unfoldable pub found_words : Option EndpointWords → List ℕ → List ℕ
found_words (Some f) list = take f.count (drop f.start list)
found_words None list = []

unfoldable pub setting_words : List ℕ → ℕ → ℕ → List ℕ
setting_words list interface alternate = found_words (find_endpoints list interface alternate) list

unfoldable pub held_words : List ℕ → List Held → List ℕ
held_words list [] = []
held_words list (h ∷ hs) = setting_words list h.interface h.alternate ++ held_words list hs

abbrev pub is_found : Option EndpointWords → Bool
is_found found = is_some found

-- Whether each setting, an interface and its alternate, passes a test.
unfoldable pub each_setting : (ℕ → ℕ → Bool) → List Held → Bool
each_setting test [] = true
each_setting test (h ∷ hs) = test h.interface h.alternate && each_setting test hs

-- Lookup finds each.
unfoldable pub all_found : List ℕ → List Held → Bool
all_found list hs = each_setting (λ i a. is_found (find_endpoints list i a)) hs

-- Distinct interfaces whose alternates lookup finds.
unfoldable pub settings_sound : List ℕ → List Held → Bool
settings_sound list hs = distinct (interfaces_of hs) && all_found list hs

-- What the code's arrays hold: some settings, zeros past the count.
pub record SettingsAs (r : Settings) (hs : List Held) : Type 0 where
  pub interfaces : r.interfaces ≡ padded HELD-ROOM 0 (interfaces_of hs)
  pub alternates : r.alternates ≡ padded HELD-ROOM 0 (alternates_of hs)
  pub count : r.count ≡ length hs
