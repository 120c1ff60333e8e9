use Rattle.std.proofs.Common.{take}
use Rattle.std.specs.List.{AllZip}
use Rattle.string_interner.specs.Extend.{texts_of}
use Rattle.dictcol.specs.Names.{Names}
use Rattle.dictcol.proofs.AreGood.{AreGoodTo}
use Rattle.dictcol.proofs.names.name_files.Given as goal

-- the files of the names so far, and that these are good
abbrev pub invariant-loop-name : goal.invariant-loop-name
invariant-loop-name l = record {
  files : AllZip Names (texts_of (take l.name-index l.names)) l.files.items;
  good : AreGoodTo l.is_input (texts_of (take l.name-index l.names)) l.has_input;
}
