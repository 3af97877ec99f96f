-- The fields of an input context by the names of xHCI 1.2, section 6.2: doubleword, low bit, width.
use Rattle.std.specs.Prelude.{ℕ, Bool, true, ◌&&◌, List, [], ◌∷◌}
use Rattle.context_field.specs.declared.Field.{Field}
use Rattle.context_field.specs.Field.{apart}

abbrev field : ℕ → ℕ → ℕ → Field
field word low width = record { word = word; low = low; width = width }

-- Input Control Context, 6.2.5.1: the tables of offsets 00h, 04h and 1Ch.
abbrev pub DROP-FLAGS : Field
DROP-FLAGS = field 0 2 30

abbrev pub ADD-FLAGS : Field
ADD-FLAGS = field 1 0 32

abbrev pub CONFIGURATION-VALUE : Field
CONFIGURATION-VALUE = field 7 0 8

abbrev pub INTERFACE-NUMBER : Field
INTERFACE-NUMBER = field 7 8 8

abbrev pub ALTERNATE-SETTING : Field
ALTERNATE-SETTING = field 7 16 8

-- The flag of one context: D2 to D31, A0 to A31.
abbrev pub DROP-FLAG : ℕ → Field
DROP-FLAG dci = field 0 dci 1

abbrev pub ADD-FLAG : ℕ → Field
ADD-FLAG dci = field 1 dci 1

-- Slot Context, 6.2.2: tables 6-4, 6-5 and 6-6.
abbrev pub ROUTE-STRING : Field
ROUTE-STRING = field 0 0 20

abbrev pub SPEED : Field
SPEED = field 0 20 4

abbrev pub MTT : Field
MTT = field 0 25 1

abbrev pub HUB : Field
HUB = field 0 26 1

abbrev pub CONTEXT-ENTRIES : Field
CONTEXT-ENTRIES = field 0 27 5

abbrev pub MAX-EXIT-LATENCY : Field
MAX-EXIT-LATENCY = field 1 0 16

abbrev pub ROOT-HUB-PORT-NUMBER : Field
ROOT-HUB-PORT-NUMBER = field 1 16 8

abbrev pub NUMBER-OF-PORTS : Field
NUMBER-OF-PORTS = field 1 24 8

abbrev pub PARENT-HUB-SLOT-ID : Field
PARENT-HUB-SLOT-ID = field 2 0 8

abbrev pub PARENT-PORT-NUMBER : Field
PARENT-PORT-NUMBER = field 2 8 8

abbrev pub TT-THINK-TIME : Field
TT-THINK-TIME = field 2 16 2

abbrev pub INTERRUPTER-TARGET : Field
INTERRUPTER-TARGET = field 2 22 10

-- Endpoint Context, 6.2.3: tables 6-8, 6-9, 6-10 and 6-11.
abbrev pub MULT : Field
MULT = field 0 8 2

abbrev pub MAX-PSTREAMS : Field
MAX-PSTREAMS = field 0 10 5

abbrev pub INTERVAL : Field
INTERVAL = field 0 16 8

abbrev pub MAX-ESIT-PAYLOAD-HI : Field
MAX-ESIT-PAYLOAD-HI = field 0 24 8

abbrev pub CERR : Field
CERR = field 1 1 2

abbrev pub EP-TYPE : Field
EP-TYPE = field 1 3 3

abbrev pub MAX-BURST-SIZE : Field
MAX-BURST-SIZE = field 1 8 8

abbrev pub MAX-PACKET-SIZE : Field
MAX-PACKET-SIZE = field 1 16 16

abbrev pub DCS : Field
DCS = field 2 0 1

abbrev pub TR-DEQUEUE-POINTER-LO : Field
TR-DEQUEUE-POINTER-LO = field 2 4 28

abbrev pub TR-DEQUEUE-POINTER-HI : Field
TR-DEQUEUE-POINTER-HI = field 3 0 32

abbrev pub AVERAGE-TRB-LENGTH : Field
AVERAGE-TRB-LENGTH = field 4 0 16

abbrev pub MAX-ESIT-PAYLOAD-LO : Field
MAX-ESIT-PAYLOAD-LO = field 4 16 16

abbrev pub fields_of_control : List Field
fields_of_control = DROP-FLAGS ∷ ADD-FLAGS ∷ CONFIGURATION-VALUE ∷ INTERFACE-NUMBER ∷ ALTERNATE-SETTING ∷ []

abbrev pub fields_of_slot : List Field
fields_of_slot =
    ROUTE-STRING ∷ SPEED ∷ MTT ∷ HUB ∷ CONTEXT-ENTRIES
    ∷ MAX-EXIT-LATENCY ∷ ROOT-HUB-PORT-NUMBER ∷ NUMBER-OF-PORTS
    ∷ PARENT-HUB-SLOT-ID ∷ PARENT-PORT-NUMBER ∷ TT-THINK-TIME ∷ INTERRUPTER-TARGET ∷ []

abbrev pub fields_of_endpoint : List Field
fields_of_endpoint =
    MULT ∷ MAX-PSTREAMS ∷ INTERVAL ∷ MAX-ESIT-PAYLOAD-HI
    ∷ CERR ∷ EP-TYPE ∷ MAX-BURST-SIZE ∷ MAX-PACKET-SIZE
    ∷ DCS ∷ TR-DEQUEUE-POINTER-LO ∷ TR-DEQUEUE-POINTER-HI
    ∷ AVERAGE-TRB-LENGTH ∷ MAX-ESIT-PAYLOAD-LO ∷ []

unfoldable pub apart_from_all : Field → List Field → Bool
apart_from_all f [] = true
apart_from_all f (g ∷ gs) = apart f g && apart_from_all f gs

unfoldable pub pairwise_apart : List Field → Bool
pairwise_apart [] = true
pairwise_apart (f ∷ fs) = apart_from_all f fs && pairwise_apart fs
