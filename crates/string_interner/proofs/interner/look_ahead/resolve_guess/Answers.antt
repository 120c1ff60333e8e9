use Rattle.std.proofs.Common.{◌≡◌, true, false, None, sym, ap, ◌∙◌}
use Rattle.std.specs.Option.{option_copied}
use Rattle.string_interner.specs.Entry.{entry_text}
use Rattle.string_interner.specs.EntryLaws.{entry_text-read}
use Rattle.string_interner.proofs.interner.look_ahead.resolve_guess.Goals as goal

pub returns-in-Some-resolve : goal.returns-in-Some-resolve
returns-in-Some-resolve g c =
    let found = sym c.try_from_usize.ensures ∙ c.in-Some-try_from_usize.is in
    let there = rw found at (rw c.in-Some.is at c.requires.guess) in
    rw (c.in-Some.is, found) (entry_text-read g.B.Store.numbering g.met.B.Store.reads _ c.in-Some-try_from_usize.symbol c.requires.texts.valid there ∙ sym c.resolve.ensures ∙ ap option_copied c.in-Some-resolve.is)

-- an entry's symbol reads a text
pub returns-in-None : goal.returns-in-None
returns-in-None g c =
    let found = sym c.try_from_usize.ensures ∙ c.in-Some-try_from_usize.is in
    let there = rw found at (rw c.in-Some.is at c.requires.guess) in
    let none : entry_text g.B.Store.numbering (g.B.Store.texts c.args.backend.now) c.in-Some-try_from_usize.symbol ≡ None =
    entry_text-read g.B.Store.numbering g.met.B.Store.reads _ c.in-Some-try_from_usize.symbol c.requires.texts.valid there ∙ sym c.resolve.ensures ∙ ap option_copied c.in-None.is in
    absurd (let e : false ≡ true = rw none at there in cc)
