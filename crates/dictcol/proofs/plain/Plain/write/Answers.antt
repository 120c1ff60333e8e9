use Rattle.std.proofs.Common.{◌≡◌, [], ◌++◌, length, subst, rules}
use Rattle.std.specs.Io.KnownBytes.{Appends}
use Rattle.string_column.specs.Column.{dictionary_of, AreCodes}
use Rattle.dictcol.specs.Lines.{text_of_ended}
use Rattle.dictcol.specs.Plain.{IsNpy}
use Rattle.dictcol.specs.Writes.{Writes}
use Rattle.dictcol.proofs.PlainColumns.{narrow-codes, narrow-rows, onto-plain}
use Rattle.dictcol.proofs.plain.Plain.write.Goals as goal

pub split_at-requires : goal.split_at-requires
split_at-requires g c =
    let none : length c.as_slices.result.1.now ≡ 0 = search rules in
    let same = narrow-codes c.codes.result.now.items c.as_slices.result.0.now c.as_slices.result.1.now c.as_slices.ensures none in
    narrow-rows _ c.args.self.now.lines c.codes.result.now.items c.as_slices.result.0.now c.args.self.now.known c.codes.ensures same c.args.self.now.within

pub returns-clause-written : goal.returns-clause-written
returns-clause-written g c = λ before text was_cut rows onto earlier.
    let lines = c.args.self.now.lines in
    let none : length c.as_slices.result.1.now ≡ 0 = search rules in
    let same = narrow-codes c.codes.result.now.items c.as_slices.result.0.now c.as_slices.result.1.now c.as_slices.ensures none in
    let are : AreCodes (dictionary_of c.args.self.now.lines) c.as_slices.result.0.now c.args.self.now.lines = subst (λ codes. AreCodes (dictionary_of lines) codes lines) same c.codes.ensures in
    let ended : Appends (g.D.Write.contents c.args.dictionary.now) (g.D.Write.contents c.write_file.new.output) (text_of_ended c.dictionary-texts.result.now.texts []) = search rules in
    let wrote = subst (λ texts. Appends (g.D.Write.contents c.args.dictionary.now) (g.D.Write.contents c.write_file.new.output) (text_of_ended texts [])) c.dictionary-texts.ensures ended in
    let both = c.write_file-2.ensures c.args.self.now.known rows earlier in
    let w : Writes (IsNpy (rows ++ c.split_at.result.1.now)) (g.N.Write.contents c.args.numbers.now) (g.N.Write.contents c.write_file-2.new.output) = search rules in
    let npy = subst (λ codes. IsNpy (rows ++ codes) w.0) c.split_at.ensures.back w.1 in (
      text_of_ended (dictionary_of lines) [],
      w.0,
      onto-plain before text w.0 c.args.earlier.now lines c.args.self.now.known was_cut c.args.self.now.is_cut c.as_slices.result.0.now rows onto are earlier npy,
      wrote,
      w.2,
    )
