-- Six texts of seven bytes in eight slots, under a hasher that gives the count of bytes: the home of all is the last slot,
-- and they go round the end. Each text stands as its number, from 0 on.
use Rattle.std.proofs.Common.{◌≡◌, ℕ, ◌%◌, List, [], ◌∷◌, length, Option, Some, None, refl, arith}
use Rattle.string_interner.specs.Slots.{IsProbeCluster}
use Rattle.string_interner.specs.Probe.{FillsSlot}
use Rattle.string_interner.proofs.Lemmas.Index.ProbeCluster.{probe_cluster-is}

abbrev Eight : Type 0
Eight = List (Option ℕ)

-- the slots with so many of the texts
abbrev none : Eight
none = None ∷ None ∷ None ∷ None ∷ None ∷ None ∷ None ∷ None ∷ []

abbrev one : Eight
one = None ∷ None ∷ None ∷ None ∷ None ∷ None ∷ None ∷ Some 0 ∷ []

abbrev two : Eight
two = Some 1 ∷ None ∷ None ∷ None ∷ None ∷ None ∷ None ∷ Some 0 ∷ []

abbrev three : Eight
three = Some 1 ∷ Some 2 ∷ None ∷ None ∷ None ∷ None ∷ None ∷ Some 0 ∷ []

abbrev four : Eight
four = Some 1 ∷ Some 2 ∷ Some 3 ∷ None ∷ None ∷ None ∷ None ∷ Some 0 ∷ []

abbrev five : Eight
five = Some 1 ∷ Some 2 ∷ Some 3 ∷ Some 4 ∷ None ∷ None ∷ None ∷ Some 0 ∷ []

abbrev six : Eight
six = Some 1 ∷ Some 2 ∷ Some 3 ∷ Some 4 ∷ Some 5 ∷ None ∷ None ∷ Some 0 ∷ []

pub first-in-slot-7 : FillsSlot none one (7 % length none) 0
first-in-slot-7 = record { at = 7; in_range = omega arith; was_empty = refl; written = refl; placed = (0, omega arith, refl) }

pub second-in-slot-0 : FillsSlot one two (7 % length one) 1
second-in-slot-0 = record { at = 0; in_range = omega arith; was_empty = refl; written = refl; placed = (1, omega arith, refl) }

pub third-in-slot-1 : FillsSlot two three (7 % length two) 2
third-in-slot-1 = record { at = 1; in_range = omega arith; was_empty = refl; written = refl; placed = (2, omega arith, refl) }

pub fourth-in-slot-2 : FillsSlot three four (7 % length three) 3
fourth-in-slot-2 = record { at = 2; in_range = omega arith; was_empty = refl; written = refl; placed = (3, omega arith, refl) }

pub fifth-in-slot-3 : FillsSlot four five (7 % length four) 4
fifth-in-slot-3 = record { at = 3; in_range = omega arith; was_empty = refl; written = refl; placed = (4, omega arith, refl) }

pub sixth-in-slot-4 : FillsSlot five six (7 % length five) 5
sixth-in-slot-4 = record { at = 4; in_range = omega arith; was_empty = refl; written = refl; placed = (5, omega arith, refl) }

-- Of a text of so many bytes that is not there: its home, and its probe cluster.
abbrev Passes : ℕ → ℕ → ℕ → Type 0
Passes bytes home cluster = (bytes % length six ≡ home) × IsProbeCluster six home cluster

pub another-of-seven-bytes : Passes 7 7 6
another-of-seven-bytes = (refl, probe_cluster-is six 7 (omega arith))

pub the-empty-text : Passes 0 0 5
the-empty-text = (refl, probe_cluster-is six 0 (omega arith))

pub one-of-five-bytes : Passes 5 5 0
one-of-five-bytes = (refl, probe_cluster-is six 5 (omega arith))

pub one-of-fifteen-bytes : Passes 15 7 6
one-of-fifteen-bytes = (refl, probe_cluster-is six 7 (omega arith))
