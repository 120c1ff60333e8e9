use Rattle.std.proofs.Common.{ap, ◌∙◌}
use Rattle.string_interner.proofs.Lemmas.Index.Vacancy.{by_code_IsVacant}
use Rattle.string_interner.specs.EntryLaws.{entry_text-IsPlace}
use Rattle.string_interner.proofs.Lemmas.Index.EntryText.{text_of-resolved}
use Rattle.string_interner.proofs.dedup.table.Table.insert.Goals as goal

pub resolve_unchecked-text-requires : goal.resolve_unchecked-text-requires
resolve_unchecked-text-requires g c = entry_text-IsPlace g.B.Store.numbering _ c.args.symbol c.requires.absent.is_entry

pub insert_at-requires-clause-vacant : goal.insert_at-requires-clause-vacant
insert_at-requires-clause-vacant g c = rw c.by_code.ensures (by_code_IsVacant _ _)

pub returns : goal.returns
returns g c = c.insert_at.ensures.inserts _ _ c.requires.fits c.requires.absent (ap (λ v. v.code) c.by_code.ensures
    ∙ c.hash_text.ensures ∙ ap (g.H.TextHasher.code c.args.hasher.now) (text_of-resolved g.B.Store.numbering _ c.args.symbol _ c.requires.absent.is_entry c.resolve_unchecked-text.ensures))
