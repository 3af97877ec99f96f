-- The answers of the calls: 01, "Who can cause an answer", and 02.
use Rattle.std.specs.Prelude.{ℕ, Bool, ◌||◌, eqb}
use Rattle.answer.specs.declared.Answer.{Answer}
use Rattle.answer.specs.declared.Answer.TheVariants.{Accepted, ContextLength, RoutesLength, LogTooShort, DescriptorList, HubChain, Speed, ThinkTime, NotFound, InvalidParameter, Rings, SlotLimitReached, Unusable, Failed, InterfaceBroken, Cut, ShortHeader, QueueFull, InvalidEndpoint, PacketExponent, TooFewRings, OutdatedAsk, NotClaimed, Companion}

-- The papers' number of an answer.
unfoldable pub number : Answer → ℕ
number Accepted = 0
number ContextLength = 1
number RoutesLength = 2
number LogTooShort = 3
number DescriptorList = 4
number HubChain = 5
number Speed = 6
number ThinkTime = 7
number NotFound = 8
number InvalidParameter = 9
number Rings = 10
number SlotLimitReached = 11
number Unusable = 12
number (Failed code) = 13
number InterfaceBroken = 14
number Cut = 15
number ShortHeader = 16
number QueueFull = 17
number InvalidEndpoint = 18
number PacketExponent = 19
number TooFewRings = 21
number OutdatedAsk = 22
number NotClaimed = 25
number Companion = 26

-- The code of 13, and 0 of the others.
unfoldable pub code_of : Answer → ℕ
code_of Accepted = 0
code_of ContextLength = 0
code_of RoutesLength = 0
code_of LogTooShort = 0
code_of DescriptorList = 0
code_of HubChain = 0
code_of Speed = 0
code_of ThinkTime = 0
code_of NotFound = 0
code_of InvalidParameter = 0
code_of Rings = 0
code_of SlotLimitReached = 0
code_of Unusable = 0
code_of (Failed code) = code
code_of InterfaceBroken = 0
code_of Cut = 0
code_of ShortHeader = 0
code_of QueueFull = 0
code_of InvalidEndpoint = 0
code_of PacketExponent = 0
code_of TooFewRings = 0
code_of OutdatedAsk = 0
code_of NotClaimed = 0
code_of Companion = 0

abbrev pub is_accepted : Answer → Bool
is_accepted a = eqb (number a) 0

abbrev pub is_broken : Answer → Bool
is_broken a = eqb (number a) 14

abbrev pub is_cut : Answer → Bool
is_cut a = eqb (number a) 15

-- Broken or cut: the record is unusable after it.
abbrev pub is_lost : Answer → Bool
is_lost a = is_broken a || is_cut a
