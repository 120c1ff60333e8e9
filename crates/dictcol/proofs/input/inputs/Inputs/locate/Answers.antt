use Rattle.std.proofs.Common.{◌≡◌, ◌-◌, ◌<◌, ◌≤◌, length, inl, rules}
use Rattle.dictcol.specs.Compression.{explained}
use Rattle.dictcol.specs.declared.fault.Fault.TheVariants.{NotUtf8}
use Rattle.dictcol.proofs.IsLineOf.{one-later, last-before}
use Rattle.dictcol.proofs.input.inputs.Inputs.locate.Goals as goal

pub loop-later-preserved : goal.loop-later-preserved
loop-later-preserved c =
    let begins = c.args.self.now.begins.items in
    let count : c.len-count.result ≡ length begins = search rules in
    let behind : c.in-NotUtf8.line ≤ c.index-begin.result.now.lines = search rules in
    one-later begins c.in-NotUtf8.line c.len-count.result c.loop-later.later c.index-begin.result.now count c.loop-later-test.true c.index-begin.ensures behind
    c.loop-later.invariant

pub returns-then-begin-line-clause-file : goal.returns-then-begin-line-clause-file
returns-then-begin-line-clause-file c =
    let begins = c.args.self.now.begins.items in
    let begin = c.index-begin.result.now in
    let count : c.len-count.result ≡ length begins = search rules in
    let begun : begin.lines < c.in-NotUtf8.line = search rules in
    let source : c.new-then-begin-line.result.source ≡ begin.source = search rules in
    let fault : c.new-then-begin-line.result.fault ≡ explained c.args.self.now.compression (NotUtf8 (c.in-NotUtf8.line - begin.newlines)) = search rules in
    rw c.in-NotUtf8.is (inl (
      begin,
      last-before begins c.in-NotUtf8.line c.len-count.result c.loop-later.later begin count c.loop-later-test.true c.index-begin.ensures begun c.loop-later.invariant,
      source,
      fault,
    ))
