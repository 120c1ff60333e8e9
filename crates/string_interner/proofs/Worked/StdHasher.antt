-- Codes of texts under the hashers of the standard library. Those of SipHash-1-3 with both keys 0 are what the published
-- algorithm gives, as a few lines of Python reckoned them, and but for the empty text what Python's own `hash` answers
-- with `PYTHONHASHSEED=0`. Those of `FoldHasher` come of a few such lines after its description.
use Rattle.std.proofs.Common.{◌≡◌, ℕ, [], ◌∷◌, refl}
use Rattle.std.specs.Hash.DefaultHasher as sip
use Rattle.std.specs.Hash.FoldHasher as folding
use Rattle.string_interner.specs.Text.{Text}
use Rattle.string_interner.specs.Hasher.{one_write}

-- so much computes a code
unfoldable computing : Unit {0}
unfolding sip.initial sip.with_keys sip.round sip.write_word sip.write_byte sip.write sip.finish folding.initial folding.folded_multiply folding.read_u32 folding.read_u64 folding.read_short folding.mix_blocks folding.write
computing = tt

abbrev sip_code : Text → ℕ
sip_code text = one_write sip.write sip.finish sip.initial text

abbrev fold_code : Text → ℕ
fold_code text = one_write folding.write folding.finish folding.initial text

pub sip-of-empty : sip_code [] ≡ 0xD1FB_A762_150C_532C
unfolding computing
sip-of-empty = refl

pub fold-of-empty : fold_code [] ≡ 0xE184_8576_4BA0_3644
unfolding computing
fold-of-empty = refl

-- `a`
pub sip-of-a : sip_code (0x61 ∷ []) ≡ 0x4074_48D2_B89B_1813
unfolding computing
sip-of-a = refl

pub fold-of-a : fold_code (0x61 ∷ []) ≡ 0x8BB6_ADCE_680A_895C
unfolding computing
fold-of-a = refl

-- `b`
pub sip-of-b : sip_code (0x62 ∷ []) ≡ 0x8B22_CF26_02FB_60CE
unfolding computing
sip-of-b = refl

pub fold-of-b : fold_code (0x62 ∷ []) ≡ 0xAB3F_ED51_392E_F3EF
unfolding computing
fold-of-b = refl

-- `ab`
pub sip-of-ab : sip_code (0x61 ∷ 0x62 ∷ []) ≡ 0x5555_08CB_C6AD_D439
unfolding computing
sip-of-ab = refl

pub fold-of-ab : fold_code (0x61 ∷ 0x62 ∷ []) ≡ 0x9472_F0CF_D5EC_EFDA
unfolding computing
fold-of-ab = refl

-- `foo`
pub sip-of-foo : sip_code (0x66 ∷ 0x6F ∷ 0x6F ∷ []) ≡ 0x6A5C_DCAD_01C9_73FA
unfolding computing
sip-of-foo = refl

pub fold-of-foo : fold_code (0x66 ∷ 0x6F ∷ 0x6F ∷ []) ≡ 0x2FA2_62DA_D6A4_32FD
unfolding computing
fold-of-foo = refl

-- `Tiger`
pub sip-of-Tiger : sip_code (0x54 ∷ 0x69 ∷ 0x67 ∷ 0x65 ∷ 0x72 ∷ []) ≡ 0x0CE7_76A5_FF61_75DD
unfolding computing
sip-of-Tiger = refl

pub fold-of-Tiger : fold_code (0x54 ∷ 0x69 ∷ 0x67 ∷ 0x65 ∷ 0x72 ∷ []) ≡ 0x9E2F_8F17_07DF_25FA
unfolding computing
fold-of-Tiger = refl

-- `foobar`
pub sip-of-foobar : sip_code (0x66 ∷ 0x6F ∷ 0x6F ∷ 0x62 ∷ 0x61 ∷ 0x72 ∷ []) ≡ 0x7738_AE0A_5DF0_9B34
unfolding computing
sip-of-foobar = refl

pub fold-of-foobar : fold_code (0x66 ∷ 0x6F ∷ 0x6F ∷ 0x62 ∷ 0x61 ∷ 0x72 ∷ []) ≡ 0x8D45_DA86_7B7D_0424
unfolding computing
fold-of-foobar = refl

-- `12345678`
pub sip-of-eight_digits : sip_code (0x31 ∷ 0x32 ∷ 0x33 ∷ 0x34 ∷ 0x35 ∷ 0x36 ∷ 0x37 ∷ 0x38 ∷ []) ≡ 0x3489_9824_3056_0A87
unfolding computing
sip-of-eight_digits = refl

pub fold-of-eight_digits : fold_code (0x31 ∷ 0x32 ∷ 0x33 ∷ 0x34 ∷ 0x35 ∷ 0x36 ∷ 0x37 ∷ 0x38 ∷ []) ≡ 0x33CD_CDB2_3383_B832
unfolding computing
fold-of-eight_digits = refl

-- `123456789`
pub sip-of-nine_digits : sip_code (0x31 ∷ 0x32 ∷ 0x33 ∷ 0x34 ∷ 0x35 ∷ 0x36 ∷ 0x37 ∷ 0x38 ∷ 0x39 ∷ []) ≡ 0x0FBC_0F00_0796_5FCF
unfolding computing
sip-of-nine_digits = refl

pub fold-of-nine_digits : fold_code (0x31 ∷ 0x32 ∷ 0x33 ∷ 0x34 ∷ 0x35 ∷ 0x36 ∷ 0x37 ∷ 0x38 ∷ 0x39 ∷ []) ≡ 0x96B6_C08D_7AC6_4A90
unfolding computing
fold-of-nine_digits = refl

-- `sixteen bytes ok`
abbrev pub sixteen_bytes : Text
sixteen_bytes = 0x73 ∷ 0x69 ∷ 0x78 ∷ 0x74 ∷ 0x65 ∷ 0x65 ∷ 0x6E ∷ 0x20 ∷ 0x62 ∷ 0x79 ∷ 0x74 ∷ 0x65 ∷ 0x73 ∷ 0x20 ∷ 0x6F ∷ 0x6B ∷ []

pub sip-of-sixteen_bytes : sip_code sixteen_bytes ≡ 0x9901_2269_0D52_EDB7
unfolding computing
sip-of-sixteen_bytes = refl

pub fold-of-sixteen_bytes : fold_code sixteen_bytes ≡ 0x1697_E261_3FF1_8006
unfolding computing
fold-of-sixteen_bytes = refl

-- `seventeen bytes !`
abbrev pub seventeen_bytes : Text
seventeen_bytes = 0x73 ∷ 0x65 ∷ 0x76 ∷ 0x65 ∷ 0x6E ∷ 0x74 ∷ 0x65 ∷ 0x65 ∷ 0x6E ∷ 0x20 ∷ 0x62 ∷ 0x79 ∷ 0x74 ∷ 0x65 ∷ 0x73 ∷ 0x20 ∷ 0x21 ∷ []

pub sip-of-seventeen_bytes : sip_code seventeen_bytes ≡ 0xB2E8_402B_E87E_761E
unfolding computing
sip-of-seventeen_bytes = refl

pub fold-of-seventeen_bytes : fold_code seventeen_bytes ≡ 0x118C_BE9A_4C09_294D
unfolding computing
fold-of-seventeen_bytes = refl

-- `the quick brown fox jumps over the lazy dog`
abbrev pub a_sentence : Text
a_sentence = 0x74 ∷ 0x68 ∷ 0x65 ∷ 0x20 ∷ 0x71 ∷ 0x75 ∷ 0x69 ∷ 0x63 ∷ 0x6B ∷ 0x20 ∷ 0x62 ∷ 0x72 ∷ 0x6F ∷ 0x77 ∷ 0x6E ∷ 0x20 ∷ 0x66 ∷ 0x6F ∷ 0x78 ∷ 0x20 ∷ 0x6A ∷ 0x75 ∷ 0x6D ∷ 0x70 ∷ 0x73 ∷ 0x20 ∷ 0x6F ∷ 0x76 ∷ 0x65 ∷ 0x72 ∷ 0x20 ∷ 0x74 ∷ 0x68 ∷ 0x65 ∷ 0x20 ∷ 0x6C ∷ 0x61 ∷ 0x7A ∷ 0x79 ∷ 0x20 ∷ 0x64 ∷ 0x6F ∷ 0x67 ∷ []

pub sip-of-a_sentence : sip_code a_sentence ≡ 0x80A6_5583_F613_DA2D
unfolding computing
sip-of-a_sentence = refl

pub fold-of-a_sentence : fold_code a_sentence ≡ 0x74E1_66CD_AAF4_B131
unfolding computing
fold-of-a_sentence = refl

-- SipHash-1-3 under two keys: those that Python makes of `PYTHONHASHSEED=1`, and what its own `hash` then answers, but for
-- the empty text, which the few lines of Python give that agree with it on the others.
abbrev keyed_code : Text → ℕ
keyed_code text = one_write sip.write sip.finish (sip.with_keys 0xAED6_6CE1_84BE_2329 0xEBE9_BBF1_F149_9052) text

pub keyed-of-empty : keyed_code [] ≡ 0x96A9_733E_F308_A1D7
unfolding computing
keyed-of-empty = refl

-- `a`
pub keyed-of-a : keyed_code (0x61 ∷ []) ≡ 0xD630_0BC9_F7CC_0E73
unfolding computing
keyed-of-a = refl

-- `Tiger`
pub keyed-of-Tiger : keyed_code (0x54 ∷ 0x69 ∷ 0x67 ∷ 0x65 ∷ 0x72 ∷ []) ≡ 0x65D6_AF55_C789_83C5
unfolding computing
keyed-of-Tiger = refl

-- `12345678`
pub keyed-of-eight_digits : keyed_code (0x31 ∷ 0x32 ∷ 0x33 ∷ 0x34 ∷ 0x35 ∷ 0x36 ∷ 0x37 ∷ 0x38 ∷ []) ≡ 0x06F0_7C60_EFE2_BAD9
unfolding computing
keyed-of-eight_digits = refl

pub keyed-of-seventeen_bytes : keyed_code seventeen_bytes ≡ 0xD8C9_8BE3_9A95_702F
unfolding computing
keyed-of-seventeen_bytes = refl

pub keyed-of-a_sentence : keyed_code a_sentence ≡ 0x4D4D_3AC5_18FA_33D0
unfolding computing
keyed-of-a_sentence = refl

-- Texts that are chosen against `FoldHasher`: `pelhxgajlndawnwxG5WzMie1`, whose last eight letters are what the sixteen before them
-- make of the state, so that a product is 0, and eight letters more, of which no code depends. Under keys it does.
abbrev chosen : Text → Text
chosen rest = 0x70 ∷ 0x65 ∷ 0x6C ∷ 0x68 ∷ 0x78 ∷ 0x67 ∷ 0x61 ∷ 0x6A ∷ 0x6C ∷ 0x6E ∷ 0x64 ∷ 0x61 ∷ 0x77 ∷ 0x6E ∷ 0x77 ∷ 0x78 ∷ 0x47 ∷ 0x35 ∷ 0x57 ∷ 0x7A ∷ 0x4D ∷ 0x69 ∷ 0x65 ∷ 0x31 ∷ rest

-- `Elephant`
abbrev pub chosen_Elephant : Text
chosen_Elephant = chosen (0x45 ∷ 0x6C ∷ 0x65 ∷ 0x70 ∷ 0x68 ∷ 0x61 ∷ 0x6E ∷ 0x74 ∷ [])

-- `Aardvark`
abbrev pub chosen_Aardvark : Text
chosen_Aardvark = chosen (0x41 ∷ 0x61 ∷ 0x72 ∷ 0x64 ∷ 0x76 ∷ 0x61 ∷ 0x72 ∷ 0x6B ∷ [])

pub fold-of-chosen_Elephant : fold_code chosen_Elephant ≡ 0
unfolding computing
fold-of-chosen_Elephant = refl

pub keyed-of-chosen_Elephant : keyed_code chosen_Elephant ≡ 0xF416_C007_96FB_A172
unfolding computing
keyed-of-chosen_Elephant = refl

pub fold-of-chosen_Aardvark : fold_code chosen_Aardvark ≡ 0
unfolding computing
fold-of-chosen_Aardvark = refl

pub keyed-of-chosen_Aardvark : keyed_code chosen_Aardvark ≡ 0x3D4E_481E_D5C6_5052
unfolding computing
keyed-of-chosen_Aardvark = refl
