use Rattle.std.proofs.Common.{◌≡◌, ℕ, ◌+◌, length, refl, sym, ap, subst, ◌∙◌, rules, None, Result, Ok, Err}
use Rattle.std.specs.Prelude.{OnErr}
use Rattle.string_interner.specs.Text.{first}
use Rattle.string_interner.specs.Given.{given_text}
use Rattle.string_interner.specs.declared.backend.InternError.TheVariants.{Memory}
use Rattle.string_interner.specs.SlotRule.{GrowsIfFull}
use Rattle.string_interner.proofs.Lemmas.Backend.Numbering.{numbered, injective}
use Rattle.string_interner.proofs.Lemmas.Index.SlotRule.{GrowsIfFull-reserved}
use Rattle.string_interner.proofs.Lemmas.Interner.IsSoundInterner.{known-entry, known-stands, new-text, interned-added}
use Rattle.string_interner.proofs.Lemmas.Interner.InternsInto.{into-known, into-refused, into-unnamed, into-stored}
use Rattle.string_interner.proofs.interner.new_text.intern_coded.Goals as goal
use Rattle.string_interner.proofs.interner.new_text.intern_coded.Goals.{In-Vacant, After-reserve_one}
use Rattle.string_interner.proofs.interner.new_text.intern_coded.Given.{Over}

pub returns-in-Occupied-clause-interns : goal.returns-in-Occupied-clause-interns
returns-in-Occupied-clause-interns g c = rw (← c.text.ensures) (into-known g.B.Store.numbering g.I.TextIndex.rule _ _ c.text.result.now _ c.requires.sound.texts
    (known-entry g.B.Store.numbering (numbered g.B.Store.numbering g.met.B.Store.symbols g.met.B.Symbol.Symbol.numbered) (injective g.B.Store.numbering g.met.B.Store.symbols g.met.B.Symbol.Symbol.injective) g.met.B.Store.grows _ c.requires.sound.texts.distinct c.requires.sound.texts.valid _ _ c.in-Occupied.ensures.found) refl)

pub returns-in-Some-clause-interns : goal.returns-in-Some-clause-interns
returns-in-Some-clause-interns g c = into-known g.B.Store.numbering g.I.TextIndex.rule _ _ (given_text c.args.given) _ c.requires.sound.texts
    (known-stands g.B.Store.numbering _ c.requires.sound.texts.distinct _ _ (rw c.in-Some.is at c.requires.known)) refl

-- where no symbol was found, the text is new
is_new : (g : Over) (c : In-Vacant g) → first (g.B.Store.texts c.args.backend.now) (given_text c.args.given) ≡ None
is_new g c = rw (← c.text.ensures) (new-text g.B.Store.numbering (numbered g.B.Store.numbering g.met.B.Store.symbols g.met.B.Symbol.Symbol.numbered) (injective g.B.Store.numbering g.met.B.Store.symbols g.met.B.Symbol.Symbol.injective) g.met.B.Store.grows _ c.requires.sound.texts.distinct c.requires.sound.texts.valid _ c.in-Vacant.ensures.found)

pub returns-then-is_full-clause-interns : goal.returns-then-is_full-clause-interns
returns-then-is_full-clause-interns g c = (into-unnamed g.B.Store.numbering g.I.TextIndex.rule _ _ c.requires.sound.texts (is_new g (goal.at.returns-then-is_full-clause-interns g c).In-Vacant) (search rules))

pub returns-in_err-reserve_one-clause-interns : goal.returns-in_err-reserve_one-clause-interns
returns-in_err-reserve_one-clause-interns g c =
    let error = Memory c.in_err-reserve_one.field-0.0 in let is : c.from_residual.result ≡ Err error = search rules in
    rw is (into-refused g.B.Store.numbering g.I.TextIndex.rule _ _ _ error c.requires.sound.texts (is_new g (goal.at.returns-in_err-reserve_one-clause-interns g c).In-Vacant) (search rules, refl)
    (λ some h. let e = (c.in_err-reserve_one.ensures.reserves.had_room (subst (λ n. g.I.TextIndex.rule.holds (g.I.TextIndex.slots c.args.index.now) (n + 1)) (sym c.requires.sound.count) h)).0 in cc) (ap g.I.TextIndex.slots c.in_err-reserve_one.ensures.reserves.err))

-- a refusal leaves the slots
unchanged : {T E I : Type 0} (slots : I → ℕ) (old new : I) (outcome : Result T E) → OnErr outcome (new ≡ old) → OnErr outcome (slots new ≡ slots old)
unchanged slots old new (Ok done) same = tt
unchanged slots old new (Err error) same = ap slots same

-- the slots grew, if they were full
grown : (g : Over) (c : After-reserve_one g) → GrowsIfFull g.I.TextIndex.rule (length (g.B.Store.texts c.args.backend.now)) (g.I.TextIndex.slots c.args.index.now) (g.I.TextIndex.slots c.reserve_one.new.self)
grown g c = subst (λ n. GrowsIfFull g.I.TextIndex.rule n (g.I.TextIndex.slots c.args.index.now) (g.I.TextIndex.slots c.reserve_one.new.self)) c.requires.sound.count
    (GrowsIfFull-reserved g.I.TextIndex.rule g.met.I.TextIndex.rule_laws _ _ _ c.reserve_one.result (λ room. ap g.I.TextIndex.slots (c.reserve_one.ensures.reserves.had_room room).1) c.reserve_one.ensures.reserves.grown (unchanged g.I.TextIndex.slots _ _ c.reserve_one.result c.reserve_one.ensures.reserves.err))

pub returns-in_err-symbol-clause-interns : goal.returns-in_err-symbol-clause-interns
returns-in_err-symbol-clause-interns g c = let at = goal.at.returns-in_err-symbol-clause-interns g c in let put = c.in_err-symbol.ensures in
    (into-stored g.B.Store.numbering g.I.TextIndex.rule _ _ _ _ _ (search rules) c.requires.sound.texts put.valid (is_new g at.In-Vacant) (search rules) put.appends put.buckets put.room (grown g at.After-reserve_one))

pub returns-clause-sound : goal.returns-clause-sound
returns-clause-sound g c = let at = goal.at.returns-clause-sound g c in let put = c.in_ok-symbol.ensures in
    interned-added g.B.Store.numbering (numbered g.B.Store.numbering g.met.B.Store.symbols g.met.B.Symbol.Symbol.numbered) (injective g.B.Store.numbering g.met.B.Store.symbols g.met.B.Symbol.Symbol.injective) g.met.B.Store.grows _ c.requires.sound.texts.distinct c.requires.sound.texts.valid (λ entry. g.I.TextIndex.indexes c.reserve_one.new.self entry (g.H.TextHasher.code c.args.hasher.now)) (λ entry. g.I.TextIndex.indexes c.insert_at.new.self entry (g.H.TextHasher.code c.args.hasher.now)) _ _ _ _ _
    c.requires.sound.count c.reserve_one.ensures.same (is_new g at.In-Vacant) put.appends put.valid (c.insert_at.ensures.count ∙ ap (λ n. n + 1) c.reserve_one.ensures.reserves.count)
    (λ adds has. c.insert_at.ensures.adds _ _ (g.H.TextHasher.code c.args.hasher.now) _ adds has (c.reserve_one.ensures.vacant _ _ (rw (← c.requires.code) c.in-Vacant.ensures.vacant)))

pub returns-clause-interns : goal.returns-clause-interns
returns-clause-interns g c = let at = goal.at.returns-clause-interns g c in let put = c.in_ok-symbol.ensures in
    (into-stored g.B.Store.numbering g.I.TextIndex.rule _ _ _ _ _ refl c.requires.sound.texts put.valid (is_new g at.In-Vacant) (search rules) put.appends put.buckets put.room
    (subst (GrowsIfFull g.I.TextIndex.rule (length (g.B.Store.texts c.args.backend.now)) (g.I.TextIndex.slots c.args.index.now)) (sym c.insert_at.ensures.slots) (grown g at.After-reserve_one)))
