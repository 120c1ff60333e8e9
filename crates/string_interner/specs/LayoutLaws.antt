-- The laws of the three layouts.
-- Cited by their implementations of the trait `Layout`.
use Rattle.std.proofs.Common.{refl}
use Rattle.string_interner.specs.Layout.{IsLayout, plain_layout}
use Rattle.string_interner.specs.LoadFactorLaws.{three_quarters-load, seven_eighths-load}
use Rattle.string_interner.specs.Tagged.{tagged_layout}
use Rattle.string_interner.specs.Words.{word_layout}

pub plain_layout-laws : {S : Type 0} → IsLayout (plain_layout {S = S})
plain_layout-laws {S} = record { fits_is = λ entry code x. (λ fits. (fits, λ k symbol text within slot is. refl), λ both. both.0); load = three_quarters-load }

pub tagged_layout-laws : {S : Type 0} → IsLayout (tagged_layout {S = S})
tagged_layout-laws {S} = record { fits_is = λ entry code x. (λ fits. (fits.slots, fits.coded), λ both. record { slots = both.0; coded = both.1 }); load = seven_eighths-load }

pub word_layout-laws : {S : Type 0} → IsLayout (word_layout {S = S})
word_layout-laws {S} = record { fits_is = λ entry code x. (λ fits. (fits.slots, fits.coded), λ both. record { slots = both.0; coded = both.1 }); load = three_quarters-load }
