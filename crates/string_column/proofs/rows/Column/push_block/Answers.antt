use Rattle.string_column.proofs.Lemmas.Blocks.{rows-put}
use Rattle.string_column.proofs.rows.Column.push_block.Goals as goal

pub invariant_of-self : goal.invariant_of-self
invariant_of-self g c =
    (rows-put g.B.Store.numbering c.args.texts.now c.self.inside.dictionary c.intern_block.new.self c.self.inside.codes.items c.intern_block.new.codes.items _ c.intern_block.result c.self.invariant c.intern_block.ensures).0

pub returns : goal.returns
returns g c = rw (← c.self.view_is)
    (rows-put g.B.Store.numbering c.args.texts.now c.self.inside.dictionary c.intern_block.new.self c.self.inside.codes.items c.intern_block.new.codes.items _ c.intern_block.result c.self.invariant c.intern_block.ensures).1
