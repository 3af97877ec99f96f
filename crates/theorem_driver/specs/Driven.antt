-- A driven bring-up: what a command reads of the device is known only once it is done, so whoever runs the call again after each outcome
-- gives it guesses for what is still to be read. No command depends on them.
use Rattle.std.specs.Prelude.{ℕ, ◌+◌, ◌-◌, ◌<◌, ◌≡◌, true, cond, List, [], ◌++◌, ltb, length, get_or, take, replicate}
use Rattle.descriptor_list.specs.Valid.{configurations}
use Rattle.descriptor_list.specs.Companions.{valid_at}
use Rattle.command.specs.declared.Command.TheVariants as command
use Rattle.command.specs.Command.{command_word}
use Rattle.course_init.specs.Reading.{BringUp, first_configurations}
use Rattle.device.specs.declared.record.Device.{Device}
use Rattle.device.specs.Left.{Left}
use Rattle.theorem_slot.specs.Call.{Buffers, Asked, brings_up, left, cut_at}
use Rattle.theorem_slot.specs.Answers.{command_context}

-- What a bring-up reads of a device, as it is guessed.
pub record Guess : Type 0 where
  pub header : ℕ
  pub packet : ℕ
  pub value : ℕ
  pub list : List ℕ

-- The bring-up of the same device with these.
unfoldable pub guessing : BringUp → Guess → BringUp
guessing a g =
    record {
      slot = a.slot;
      max_slots = a.max_slots;
      speed = a.speed;
      hubs = a.hubs;
      parent = a.parent;
      port = a.port;
      root_port = a.root_port;
      rings = a.rings;
      header = g.header;
      packet = g.packet;
      value = g.value;
      list = g.list;
    }

-- Which commands of a bring-up read, counted from 0: the first 8 bytes of the device descriptor, the configuration value, the device
-- descriptor, and from FIRST-CONFIG on the configurations.
abbrev pub HEADER : ℕ
HEADER = 1

abbrev pub VALUE : ℕ
VALUE = 3

abbrev pub DEVICE : ℕ
DEVICE = 4

abbrev pub FIRST-CONFIG : ℕ
FIRST-CONFIG = 5

-- Where a bring-up has sent such a command, it is that one.
pub record ReadsThere (a : BringUp) (l : Left) : Type 0 where
  pub header : HEADER < l.count → get_or l.log HEADER 0 ≡ command_word command.ReadHeader
  pub value : VALUE < l.count → get_or l.log VALUE 0 ≡ command_word command.ReadConfiguration
  pub device : DEVICE < l.count → get_or l.log DEVICE 0 ≡ command_word command.ReadDevice
  pub config :
      (k : ℕ) → k < configurations a.list → FIRST-CONFIG + k < l.count →
      get_or l.log (FIRST-CONFIG + k) 0 ≡ command_word (command.ReadConfig k)

abbrev pub ReadsPlaced : Type 0
ReadsPlaced =
    (a : BringUp) (b : Buffers) (d : Device) (routes : List ℕ) → ReadsThere a (left (brings_up a) b d routes)

-- A guess is right about all that the commands before command i read. The device descriptor says how many configurations there are.
pub record Right (a : BringUp) (g : Guess) (i : ℕ) : Type 0 where
  pub header : HEADER < i → (g.header ≡ a.header) × (g.packet ≡ a.packet)
  pub value : VALUE < i → g.value ≡ a.value
  pub device : DEVICE < i → configurations g.list ≡ configurations a.list
  pub config :
      (k : ℕ) → FIRST-CONFIG + k < i → first_configurations (k + 1) g.list ≡ first_configurations (k + 1) a.list

-- With i outcomes a bring-up leaves what it would leave with any other guess that is right so far: answer, record, context, routes and log.
abbrev pub GuessesUnread : Type 0
GuessesUnread =
    (a : BringUp) (g : Guess) (b : Buffers) (d : Device) (routes : List ℕ) →
    valid_at a.speed a.list ≡ true → valid_at a.speed g.list ≡ true → Right a g (length b.outcomes) →
    left (brings_up (guessing a g)) b d routes ≡ left (brings_up a) b d routes

-- Two calls send the same commands up to command i, and that one over the same context.
pub record SameCommand (i : ℕ) (x y : Asked) (b : Buffers) (d : Device) (routes : List ℕ) : Type 0 where
  pub sent : i < (left y b d routes).count
  pub words : take (i + 1) (left y b d routes).log ≡ take (i + 1) (left x b d routes).log
  pub context : command_context y b d routes i ≡ command_context x b d routes i

-- Two bring-ups that agree on what was read before command i send the same command i.
abbrev pub CommandsUnguessed : Type 0
CommandsUnguessed =
    (a : BringUp) (g : Guess) (b : Buffers) (d : Device) (routes : List ℕ) (i : ℕ) →
    valid_at a.speed a.list ≡ true → valid_at a.speed g.list ≡ true → Right a g i →
    i < (left (brings_up a) b d routes).count → SameCommand i (brings_up a) (brings_up (guessing a g)) b d routes

-- The guesses of the drivers in host/ before command i: numbers that are not read yet are 0, and there is no list before the device
-- descriptor is read; then it has the words of the configurations that were read, and for each of the others one word, 0.
unfoldable pub partly_read : ℕ → List ℕ → List ℕ
partly_read k list = first_configurations k list ++ replicate (configurations list - k) 0

unfoldable pub drivers_guess : BringUp → ℕ → Guess
drivers_guess a i =
    record {
      header = cond (ltb HEADER i) a.header 0;
      packet = cond (ltb HEADER i) a.packet 0;
      value = cond (ltb VALUE i) a.value 0;
      list = cond (ltb DEVICE i) (partly_read (i - FIRST-CONFIG) a.list) [];
    }

-- So a driven bring-up of a device whose list is valid at its speed goes as the whole one: before each command it is as that one, cut there.
abbrev pub DrivenAsWhole : Type 0
DrivenAsWhole =
    (a : BringUp) (b : Buffers) (d : Device) (routes : List ℕ) (i : ℕ) → valid_at a.speed a.list ≡ true →
    left (brings_up (guessing a (drivers_guess a i))) (cut_at i b) d routes ≡ left (brings_up a) (cut_at i b) d routes
