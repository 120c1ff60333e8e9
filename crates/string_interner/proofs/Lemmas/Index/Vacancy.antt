-- Where the symbol of a text goes that was not found.
use Rattle.std.proofs.Common.{ℕ, ◌<◌, ◌%◌, List, Option, length, refl, arith}
use Rattle.string_interner.specs.Probe.{IsVacant}
use Rattle.string_interner.specs.declared.dedup.probe.Vacancy.{Vacancy}

pub mod_less : (n count : ℕ) → 0 < count → n % count < count
mod_less n count some = omega arith

-- with no slots behind it a vacancy stands on its code alone
pub by_code_IsVacant : {S : Type 0} (slots : List (Option S)) (code : ℕ) → IsVacant slots code (record { code = code; slot_count = 0; at = 0 })
by_code_IsVacant slots code = record { code_is = refl; before = omega arith; free = λ same some. absurd (omega arith) }

-- and one that was made for fewer slots does so now
pub IsVacant-grown : {S : Type 0} (old new : List (Option S)) (code : ℕ) (vacancy : Vacancy) → length old < length new → IsVacant old code vacancy → IsVacant new code vacancy
IsVacant-grown old new code vacancy more v = record { code_is = v.code_is; before = omega (arith, v.before); free = λ same some. absurd (omega (arith, v.before)) }
