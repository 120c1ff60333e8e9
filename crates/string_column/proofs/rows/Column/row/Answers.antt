use Rattle.std.proofs.Common.{sym, ◌∙◌}
use Rattle.string_column.proofs.Lemmas.Rows.{row-at, code-within, no-row-at}
use Rattle.string_column.proofs.rows.Column.row.Goals as goal

pub text_at-requires : goal.text_at-requires
text_at-requires g c = code-within c.self.inside.dictionary c.self.inside.codes.items _ c.args.index c.in-Some.code c.self.invariant.codes_are (sym c.in-Some.ensures)

pub returns-in-Some : goal.returns-in-Some
returns-in-Some g c = rw (← c.self.view_is)
    (sym c.text_at.ensures ∙ row-at c.self.inside.dictionary c.self.inside.codes.items _ c.args.index c.in-Some.code c.self.invariant.codes_are (sym c.in-Some.ensures))

pub returns-in-None : goal.returns-in-None
returns-in-None g c = rw (← c.self.view_is) (sym (no-row-at c.self.inside.dictionary c.self.inside.codes.items _ c.args.index c.self.invariant.codes_are (sym c.in-None.ensures)))
