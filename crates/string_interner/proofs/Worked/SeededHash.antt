-- Codes under a `SeededState`, as two programs of some lines, one in Python and one in Rust, reckoned them from a description of the
-- function, and not from the code in Rattle. The keys are those that Python makes of `PYTHONHASHSEED=1`. `tools/tests/attacks.rs` has the same codes.
use Rattle.std.proofs.Common.{◌≡◌, ℕ, [], ◌∷◌, refl}
use Rattle.std.specs.List.{repeat}
use Rattle.string_interner.specs.Text.{Text}
use Rattle.string_interner.specs.Hasher.{one_write}
use Rattle.string_interner.specs.SeededHash as seeded
use Rattle.string_interner.proofs.Worked.StdHasher.{a_sentence, chosen_Aardvark, chosen_Elephant, seventeen_bytes, sixteen_bytes}

-- so much computes a code
unfoldable computing : Unit {0}
unfolding seeded.last_block seeded.absorb_all
computing = tt

abbrev seeded_code : Text → ℕ
seeded_code text = one_write seeded.write seeded.finish (seeded.with_keys (record { key0 = 0xAED6_6CE1_84BE_2329; key1 = 0xEBE9_BBF1_F149_9052 })) text

pub seeded-of-empty : seeded_code [] ≡ 0x2DCA_98ED_8279_6A8C
unfolding computing
seeded-of-empty = refl

-- `a`
pub seeded-of-a : seeded_code (0x61 ∷ []) ≡ 0x1D0D_1221_8890_1B54
unfolding computing
seeded-of-a = refl

-- `ab`
pub seeded-of-ab : seeded_code (0x61 ∷ 0x62 ∷ []) ≡ 0x7016_F5AB_0E6F_127A
unfolding computing
seeded-of-ab = refl

-- `foo`
pub seeded-of-foo : seeded_code (0x66 ∷ 0x6F ∷ 0x6F ∷ []) ≡ 0x4EF3_7E5B_EC45_5730
unfolding computing
seeded-of-foo = refl

-- `1234`
pub seeded-of-four_digits : seeded_code (0x31 ∷ 0x32 ∷ 0x33 ∷ 0x34 ∷ []) ≡ 0x7841_58A0_3B1C_E9DD
unfolding computing
seeded-of-four_digits = refl

-- `Tiger`
pub seeded-of-Tiger : seeded_code (0x54 ∷ 0x69 ∷ 0x67 ∷ 0x65 ∷ 0x72 ∷ []) ≡ 0x28DD_40AB_1948_C05D
unfolding computing
seeded-of-Tiger = refl

-- `12345678`
pub seeded-of-eight_digits : seeded_code (0x31 ∷ 0x32 ∷ 0x33 ∷ 0x34 ∷ 0x35 ∷ 0x36 ∷ 0x37 ∷ 0x38 ∷ []) ≡ 0x21FF_9AE6_D7C5_72D5
unfolding computing
seeded-of-eight_digits = refl

-- `123456789`
pub seeded-of-nine_digits : seeded_code (0x31 ∷ 0x32 ∷ 0x33 ∷ 0x34 ∷ 0x35 ∷ 0x36 ∷ 0x37 ∷ 0x38 ∷ 0x39 ∷ []) ≡ 0xB21D_394A_6FE2_65EB
unfolding computing
seeded-of-nine_digits = refl

-- `fifteen bytes !`
pub seeded-of-fifteen_bytes : seeded_code (0x66 ∷ 0x69 ∷ 0x66 ∷ 0x74 ∷ 0x65 ∷ 0x65 ∷ 0x6E ∷ 0x20 ∷ 0x62 ∷ 0x79 ∷ 0x74 ∷ 0x65 ∷ 0x73 ∷ 0x20 ∷ 0x21 ∷ []) ≡ 0x8CD7_D790_E7C9_1118
unfolding computing
seeded-of-fifteen_bytes = refl

pub seeded-of-sixteen_bytes : seeded_code sixteen_bytes ≡ 0xB313_BC1D_C169_C3E3
unfolding computing
seeded-of-sixteen_bytes = refl

pub seeded-of-seventeen_bytes : seeded_code seventeen_bytes ≡ 0x4D07_AD8D_7DFC_0B17
unfolding computing
seeded-of-seventeen_bytes = refl

pub seeded-of-a_sentence : seeded_code a_sentence ≡ 0xEAC1_3DA2_B5BD_5B56
unfolding computing
seeded-of-a_sentence = refl

-- eighty times `a`, which is more bytes than the length turns a key by
abbrev pub eighty_letters : Text
eighty_letters = repeat 80 (0x61 ∷ [])

pub seeded-of-eighty_letters : seeded_code eighty_letters ≡ 0x2926_75F0_7022_AF1B
unfolding computing
seeded-of-eighty_letters = refl

-- These two have one code under `FoldHasher`.
pub seeded-of-chosen_Elephant : seeded_code chosen_Elephant ≡ 0x4DFC_08C7_64C7_40A4
unfolding computing
seeded-of-chosen_Elephant = refl

pub seeded-of-chosen_Aardvark : seeded_code chosen_Aardvark ≡ 0x208E_967F_5873_A301
unfolding computing
seeded-of-chosen_Aardvark = refl
