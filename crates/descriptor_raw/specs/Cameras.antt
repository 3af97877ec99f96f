-- What reader and writer answer at each speed: a camera's descriptors and lists, and beside them others that differ in one place each.
-- proofs/Cameras.antt computes them.
use Rattle.std.specs.Prelude.{ℕ, ◌≡◌, List, [], ◌∷◌, ◌++◌, replicate}
use Rattle.function_answer.specs.Answer.{Left, accepts, number}
use Rattle.descriptor_raw.specs.Read.{read_descriptors}
use Rattle.descriptor_raw.specs.Write.{write_descriptors}

-- lent memory
abbrev pub words : List ℕ
words = replicate 256 7

abbrev pub bytes : List ℕ
bytes = replicate 2304 7

abbrev pub reading : ℕ → List ℕ → Left
reading speed l = read_descriptors speed l words

abbrev pub writing : ℕ → List ℕ → Left
writing speed l = write_descriptors speed l bytes

abbrev pub reads : ℕ → List ℕ → ℕ
reads speed l = number (reading speed l).answer

abbrev pub writes : ℕ → List ℕ → ℕ
writes speed l = number (writing speed l).answer

-- A configuration of a total length, with an interface of one endpoint.
abbrev pub configuration : ℕ → List ℕ
configuration total = 9 ∷ 2 ∷ total ∷ 0 ∷ 1 ∷ 1 ∷ 0 ∷ 0x80 ∷ 0x32 ∷ 9 ∷ 4 ∷ 0 ∷ 0 ∷ 1 ∷ 3 ∷ 0 ∷ 0 ∷ 0 ∷ []

-- An endpoint of a type, and a companion of 8 bytes per interval.
abbrev pub point : ℕ → List ℕ
point type = 7 ∷ 5 ∷ 0x81 ∷ type ∷ 8 ∷ 0 ∷ 4 ∷ []

abbrev pub companion : ℕ → ℕ → List ℕ
companion burst attributes = 6 ∷ 48 ∷ burst ∷ attributes ∷ 8 ∷ 0 ∷ []

-- All of them.
abbrev pub camera : ℕ → ℕ → ℕ → List ℕ
camera type burst attributes = configuration 31 ++ (point type ++ companion burst attributes)

abbrev pub ReadExamples : Type 0
ReadExamples =
    -- an interrupt endpoint of burst 3; at speed 3 its companion is another descriptor
    (reading 4 (camera 3 3 0) ≡ accepts (0x00400000 ∷ 0x40000000 ∷ 0xa3808410 ∷ 0xcc000800 ∷ []) words)
    × (reading 5 (camera 3 3 0) ≡ accepts (0x00400000 ∷ 0x40000000 ∷ 0xa3808410 ∷ 0xcc000800 ∷ []) words)
    × (reading 3 (camera 3 3 0) ≡ accepts (0x00400000 ∷ 0x40000000 ∷ 0xa3808410 ∷ []) words)
    -- mult 2 of an isochronous endpoint, and the same attributes of an interrupt and of a bulk one
    × (reading 4 (camera 1 3 2) ≡ accepts (0x00400000 ∷ 0x40000000 ∷ 0xa2808410 ∷ 0xce000800 ∷ []) words)
    × (reading 4 (camera 3 3 2) ≡ accepts (0x00400000 ∷ 0x40000000 ∷ 0xa3808410 ∷ 0xcc000800 ∷ []) words)
    × (reading 4 (camera 2 3 3) ≡ accepts (0x00400000 ∷ 0x40000000 ∷ 0xa3008410 ∷ 0xcc000800 ∷ []) words)
    -- other bits of the attributes, bytes past the sixth, and another descriptor between
    × (reads 4 (camera 1 3 0xfe) ≡ 0)
    × (reads 4 (configuration 33 ++ (point 3 ++ (8 ∷ 48 ∷ 3 ∷ 0 ∷ 8 ∷ 0 ∷ 1 ∷ 1 ∷ []))) ≡ 0)
    × (reads 4 (configuration 34 ++ (point 3 ++ ((3 ∷ 0x24 ∷ 1 ∷ []) ++ companion 3 0))) ≡ 0)
    -- burst 15 and 16, mult 3
    × (reads 4 (camera 3 15 0) ≡ 0)
    × (reads 4 (camera 3 16 0) ≡ 26)
    × (reads 5 (camera 3 16 0) ≡ 26)
    × (reads 3 (camera 3 16 0) ≡ 0)
    × (reads 4 (camera 1 0 3) ≡ 26)
    -- none, before its endpoint, and two
    × (reads 4 (configuration 25 ++ point 3) ≡ 26)
    × (reads 5 (configuration 25 ++ point 3) ≡ 26)
    × (reads 3 (configuration 25 ++ point 3) ≡ 0)
    × (reads 4 (configuration 31 ++ (companion 0 0 ++ point 3)) ≡ 26)
    × (reads 4 (configuration 37 ++ (point 3 ++ (companion 0 0 ++ companion 0 0))) ≡ 26)
    -- before everything, and 4 with 26
    × (reads 4 (companion 0 0 ++ camera 3 0 0) ≡ 4)
    × (reads 4 (companion 16 0 ++ camera 3 0 0) ≡ 4)
    × (reads 4 (configuration 25 ++ point 0) ≡ 4)
    -- three bytes, with 4 and 26
    × (reads 4 (configuration 28 ++ (point 3 ++ (3 ∷ 48 ∷ 0 ∷ []))) ≡ 20)
    × (reads 4 (configuration 28 ++ (point 0 ++ (3 ∷ 48 ∷ 16 ∷ []))) ≡ 20)
    × (reads 3 (configuration 28 ++ (point 3 ++ (3 ∷ 48 ∷ 0 ∷ []))) ≡ 0)
    -- speeds 0 and 6, with 20; 3 before it
    × (reads 0 (camera 3 3 0) ≡ 6)
    × (reads 6 (camera 3 3 0) ≡ 6)
    × (reads 6 (1 ∷ []) ≡ 6)
    × (number (read_descriptors 6 [] (replicate 255 7)).answer ≡ 3)

-- A list of one endpoint word and what stands behind it.
abbrev pub listed : ℕ → List ℕ → List ℕ
listed w rest = 0x00400000 ∷ 0x40000000 ∷ w ∷ rest

abbrev pub WriteExamples : Type 0
WriteExamples =
    -- mult 2 of an isochronous endpoint
    (writing 4 (listed 0xa2808410 (0xce000800 ∷ []))
    ≡ accepts
    (9 ∷ 2 ∷ 31 ∷ 0 ∷ 1 ∷ 1 ∷ 0 ∷ 0x80 ∷ 0
    ∷ 9 ∷ 4 ∷ 0 ∷ 0 ∷ 1 ∷ 0 ∷ 0 ∷ 0 ∷ 0
    ∷ 7 ∷ 5 ∷ 0x81 ∷ 1 ∷ 8 ∷ 0 ∷ 4
    ∷ 6 ∷ 48 ∷ 3 ∷ 2 ∷ 8 ∷ 0 ∷ [])
    bytes)
    -- each speed, with a companion and without one
    × (writes 5 (listed 0xa2808410 (0xce000800 ∷ [])) ≡ 0)
    × (writes 3 (listed 0xa2808410 (0xce000800 ∷ [])) ≡ 4)
    × (writes 3 (listed 0xa2808410 []) ≡ 0)
    × (writes 4 (listed 0xa2808410 []) ≡ 26)
    × (writes 5 (listed 0xa2808410 []) ≡ 26)
    -- mult 3 of an isochronous endpoint, mult 1 of an interrupt and of a bulk one
    × (writes 5 (listed 0xa2808410 (0xcf000800 ∷ [])) ≡ 26)
    × (writes 5 (listed 0xa3808410 (0xcd000800 ∷ [])) ≡ 26)
    × (writes 5 (listed 0xa3008410 (0xcd000800 ∷ [])) ≡ 26)
    -- behind an alternate word, and two
    × (writes 5 (listed 0xa3808410 (0xcc000800 ∷ 0x40004000 ∷ 0xcc000800 ∷ [])) ≡ 26)
    × (writes 5 (listed 0xa3808410 (0xcc000800 ∷ 0xcc000800 ∷ [])) ≡ 26)
    -- an unused bit, alone and with 26; a companion as first word
    × (writes 5 (listed 0xa3808410 (0xcc000801 ∷ [])) ≡ 4)
    × (writes 5 (listed 0xa3808410 (0xcd000801 ∷ 0xcc000800 ∷ [])) ≡ 4)
    × (writes 5 (0xcc000800 ∷ []) ≡ 4)
    × (writes 5 (listed 0xa0808410 []) ≡ 4)
    -- packets 0, alone and with 26
    × (writes 5 (listed 0xa3808010 (0xcc000800 ∷ [])) ≡ 20)
    × (writes 5 (listed 0xa3808010 []) ≡ 26)
    -- speeds 0 and 6, with 4; 3 before it
    × (writes 0 [] ≡ 6)
    × (writes 6 (0x40000000 ∷ []) ≡ 6)
    × (number (write_descriptors 6 [] (replicate 2303 7)).answer ≡ 3)
