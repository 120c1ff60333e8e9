-- Bytes and places of texts in a byte buffer: each text stands behind its length.
use Rattle.std.proofs.Common.{◌≡◌, ℕ, ◌+◌, [], ◌∷◌, length, refl, arith}
use Rattle.string_interner.specs.Text.{Text}
use Rattle.string_interner.specs.Spelling.{spell_within, spell, digits}
use Rattle.string_interner.specs.BufferBackend.{bytes_of, entry_len, place_of}
use Rattle.string_interner.proofs.Worked.Spelling.{digits-127, digits-128, digits-16383, digits-16384, digits-65531, digits-65532, digits-65533}

abbrev tiger : Text
tiger = 0x54 ∷ 0x69 ∷ 0x67 ∷ 0x65 ∷ 0x72 ∷ []

abbrev horse : Text
horse = 0x48 ∷ 0x6F ∷ 0x72 ∷ 0x73 ∷ 0x65 ∷ []

abbrev bear : Text
bear = 0x42 ∷ 0x65 ∷ 0x61 ∷ 0x72 ∷ []

abbrev ox : Text
ox = 0x4F ∷ 0x78 ∷ []

abbrev elephant : Text
elephant = 0x45 ∷ 0x6C ∷ 0x65 ∷ 0x70 ∷ 0x68 ∷ 0x61 ∷ 0x6E ∷ 0x74 ∷ []

abbrev earth : Text
earth = 0x45 ∷ 0x61 ∷ 0x72 ∷ 0x74 ∷ 0x68 ∷ []

abbrev water : Text
water = 0x57 ∷ 0x61 ∷ 0x74 ∷ 0x65 ∷ 0x72 ∷ []

abbrev fire : Text
fire = 0x46 ∷ 0x69 ∷ 0x72 ∷ 0x65 ∷ []

abbrev air : Text
air = 0x41 ∷ 0x69 ∷ 0x72 ∷ []

-- `Tiger`, `Horse`
pub bytes-of-two-animals : bytes_of (tiger ∷ horse ∷ []) ≡ 0x05 ∷ 0x54 ∷ 0x69 ∷ 0x67 ∷ 0x65 ∷ 0x72 ∷ 0x05 ∷ 0x48 ∷ 0x6F ∷ 0x72 ∷ 0x73 ∷ 0x65 ∷ []
unfolding spell_within spell
bytes-of-two-animals = refl

-- the bytes 61 01, and the empty text
pub bytes-across-two-entries : bytes_of ((0x61 ∷ 0x01 ∷ []) ∷ [] ∷ []) ≡ 0x02 ∷ 0x61 ∷ 0x01 ∷ 0x00 ∷ []
unfolding spell_within spell
bytes-across-two-entries = refl

pub place-after-tiger : place_of (tiger ∷ []) ≡ 6
unfolding spell_within spell digits
place-after-tiger = refl

pub place-after-two-animals : place_of (tiger ∷ horse ∷ []) ≡ 12
unfolding spell_within spell digits
place-after-two-animals = refl

pub place-after-three-animals : place_of (tiger ∷ horse ∷ bear ∷ []) ≡ 17
unfolding spell_within spell digits
place-after-three-animals = refl

-- where `Horse` gave way to `Ox`
pub place-after-ox : place_of (tiger ∷ ox ∷ []) ≡ 9
unfolding spell_within spell digits
place-after-ox = refl

-- `Elephant`, `Tiger`, `Horse`
pub place-after-elephant : place_of (elephant ∷ []) ≡ 9
unfolding spell_within spell digits
place-after-elephant = refl

pub place-after-elephant-and-tiger : place_of (elephant ∷ tiger ∷ []) ≡ 15
unfolding spell_within spell digits
place-after-elephant-and-tiger = refl

pub place-after-the-zoo : place_of (elephant ∷ tiger ∷ horse ∷ []) ≡ 21
unfolding spell_within spell digits
place-after-the-zoo = refl

-- `Earth`, `Water`, `Fire`, `Air`
pub place-after-earth-and-water : place_of (earth ∷ water ∷ []) ≡ 12
unfolding spell_within spell digits
place-after-earth-and-water = refl

pub place-after-fire : place_of (earth ∷ water ∷ fire ∷ []) ≡ 17
unfolding spell_within spell digits
place-after-fire = refl

pub place-after-the-elements : place_of (earth ∷ water ∷ fire ∷ air ∷ []) ≡ 21
unfolding spell_within spell digits
place-after-the-elements = refl

-- A text of many letters, whatever they are: the place after it, and after one more letter.
abbrev Places : ℕ → ℕ → Type 0
Places letters place = (text : Text) → length text ≡ letters → (place_of (text ∷ []) ≡ place) × (place_of (text ∷ (0x78 ∷ []) ∷ []) ≡ place + 2)

places : (letters count : ℕ) → digits letters ≡ count → Places letters (count + letters)
unfolding spell_within spell digits
places letters count is text long = rw (long, is) (omega arith, omega arith)

pub places-of-127-letters : Places 127 128
places-of-127-letters = places 127 1 digits-127

pub places-of-128-letters : Places 128 130
places-of-128-letters = places 128 2 digits-128

pub places-of-16383-letters : Places 16383 16385
places-of-16383-letters = places 16383 2 digits-16383

pub places-of-16384-letters : Places 16384 16387
places-of-16384-letters = places 16384 3 digits-16384

-- 65534 is the last number of a symbol of two bytes
pub places-of-65531-letters : Places 65531 65534
places-of-65531-letters = places 65531 3 digits-65531

pub places-of-65532-letters : Places 65532 65535
places-of-65532-letters = places 65532 3 digits-65532

pub places-of-65533-letters : Places 65533 65536
places-of-65533-letters = places 65533 3 digits-65533

-- What a text takes of the room: two animals have 26 bytes, which is the room for two texts, and twelve letters with
-- their length have all of the 13 for one.
pub cost-of-tiger : entry_len tiger ≡ 6
unfolding spell_within spell digits
cost-of-tiger = refl

pub cost-of-twelve-letters : entry_len (0x61 ∷ 0x62 ∷ 0x63 ∷ 0x64 ∷ 0x65 ∷ 0x66 ∷ 0x67 ∷ 0x68 ∷ 0x69 ∷ 0x6A ∷ 0x6B ∷ 0x6C ∷ []) ≡ 13
unfolding spell_within spell digits
cost-of-twelve-letters = refl
