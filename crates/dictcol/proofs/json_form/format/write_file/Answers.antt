use Rattle.dictcol.proofs.json_form.format.write_file.Goals as goal

pub returns-in-Ok-write_object-clause-written : goal.returns-in-Ok-write_object-clause-written
returns-in-Ok-write_object-clause-written g c = λ bytes are. let written = c.in-Ok-write_object.ensures in (written.0, (c.args.lines.now, c.args.is_ended, are, written.1), written.2)
