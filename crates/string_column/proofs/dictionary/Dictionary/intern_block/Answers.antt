use Rattle.std.proofs.Common.{rules, take}
use Rattle.string_interner.specs.Extend.{texts_of}
use Rattle.string_column.proofs.Lemmas.Blocks.{slice-interned, slice-ahead, block-put, block-dropped}
use Rattle.string_column.proofs.dictionary.Dictionary.intern_block.Goals as goal

pub take_numbers-requires : goal.take_numbers-requires
take_numbers-requires g c =
    let slice = c.intern_slice-ended in let ended = c.count_done-done.result in
    let interned = slice-interned g.B.Store.numbering g.I.TextIndex.rule c.args.texts.now c.self.inside.interner slice.new.self _ slice.new.numbers slice.result ended slice.ensures c.count_done-done.ensures in (
      c.self.inside.interner.texts,
      slice.new.self.texts,
      texts_of (take ended.0 c.args.texts.now),
      slice-ahead g.B.Store.numbering g.I.TextIndex.rule c.args.texts.now c.self.inside.interner slice.new.self _ slice.new.numbers ended.0 ended.1 c.self.inside.symbols interned c.len.ensures.holds.texts.distinct c.self.invariant c.len-2.ensures.holds.texts.valid.fits,
    )

pub invariant_of-self : goal.invariant_of-self
invariant_of-self g c =
    let slice = c.intern_slice-ended in let ended = c.count_done-done.result in
    let interned = slice-interned g.B.Store.numbering g.I.TextIndex.rule c.args.texts.now c.self.inside.interner slice.new.self _ slice.new.numbers slice.result ended slice.ensures c.count_done-done.ensures in
    let old = c.self.inside.interner in
    let taken = texts_of (take ended.0 c.args.texts.now) in
    let ahead = slice-ahead g.B.Store.numbering g.I.TextIndex.rule c.args.texts.now old slice.new.self _ slice.new.numbers ended.0 ended.1 c.self.inside.symbols interned c.len.ensures.holds.texts.distinct c.self.invariant c.len-2.ensures.holds.texts.valid.fits in
    (block-dropped g.B.Store.numbering g.I.TextIndex.rule c.args.texts.now old slice.new.self _ slice.new.numbers ended.0 ended.1 c.args.codes.now.items c.take_numbers.new.codes.items c.take_numbers.new.symbols
    c.take_numbers.result c.in-Err.error c.truncate.new.self.texts interned c.in-Err.is (c.take_numbers.ensures old.texts slice.new.self.texts taken ahead) (search rules)).0

pub returns-in-Err : goal.returns-in-Err
returns-in-Err g c =
    let slice = c.intern_slice-ended in let ended = c.count_done-done.result in
    let interned = slice-interned g.B.Store.numbering g.I.TextIndex.rule c.args.texts.now c.self.inside.interner slice.new.self _ slice.new.numbers slice.result ended slice.ensures c.count_done-done.ensures in
    let old = c.self.inside.interner in
    let taken = texts_of (take ended.0 c.args.texts.now) in
    let ahead = slice-ahead g.B.Store.numbering g.I.TextIndex.rule c.args.texts.now old slice.new.self _ slice.new.numbers ended.0 ended.1 c.self.inside.symbols interned c.len.ensures.holds.texts.distinct c.self.invariant c.len-2.ensures.holds.texts.valid.fits in
    rw (← c.self.view_is) (block-dropped g.B.Store.numbering g.I.TextIndex.rule c.args.texts.now old slice.new.self _ slice.new.numbers ended.0 ended.1 c.args.codes.now.items c.take_numbers.new.codes.items c.take_numbers.new.symbols
    c.take_numbers.result c.in-Err.error c.truncate.new.self.texts interned c.in-Err.is (c.take_numbers.ensures old.texts slice.new.self.texts taken ahead) (search rules)).1

pub invariant_of-self-in_default : goal.invariant_of-self-in_default
invariant_of-self-in_default g c =
    let slice = c.intern_slice-ended in let ended = c.count_done-done.result in
    let interned = slice-interned g.B.Store.numbering g.I.TextIndex.rule c.args.texts.now c.self.inside.interner slice.new.self _ slice.new.numbers slice.result ended slice.ensures c.count_done-done.ensures in
    let old = c.self.inside.interner in
    let taken = texts_of (take ended.0 c.args.texts.now) in
    let ahead = slice-ahead g.B.Store.numbering g.I.TextIndex.rule c.args.texts.now old slice.new.self _ slice.new.numbers ended.0 ended.1 c.self.inside.symbols interned c.len.ensures.holds.texts.distinct c.self.invariant c.len-2.ensures.holds.texts.valid.fits in
    (block-put g.B.Store.numbering g.I.TextIndex.rule c.args.texts.now old slice.new.self _ slice.new.numbers ended.0 ended.1 c.args.codes.now.items c.take_numbers.new.codes.items c.take_numbers.new.symbols
    c.take_numbers.result interned (search rules) (c.take_numbers.ensures old.texts slice.new.self.texts taken ahead)).0

pub returns : goal.returns
returns g c =
    let slice = c.intern_slice-ended in let ended = c.count_done-done.result in
    let interned = slice-interned g.B.Store.numbering g.I.TextIndex.rule c.args.texts.now c.self.inside.interner slice.new.self _ slice.new.numbers slice.result ended slice.ensures c.count_done-done.ensures in
    let old = c.self.inside.interner in
    let taken = texts_of (take ended.0 c.args.texts.now) in
    let ahead = slice-ahead g.B.Store.numbering g.I.TextIndex.rule c.args.texts.now old slice.new.self _ slice.new.numbers ended.0 ended.1 c.self.inside.symbols interned c.len.ensures.holds.texts.distinct c.self.invariant c.len-2.ensures.holds.texts.valid.fits in
    rw (← c.self.view_is) (block-put g.B.Store.numbering g.I.TextIndex.rule c.args.texts.now old slice.new.self _ slice.new.numbers ended.0 ended.1 c.args.codes.now.items c.take_numbers.new.codes.items c.take_numbers.new.symbols
    c.take_numbers.result interned (search rules) (c.take_numbers.ensures old.texts slice.new.self.texts taken ahead)).1
