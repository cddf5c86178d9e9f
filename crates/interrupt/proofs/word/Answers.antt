-- `interrupt::word` meets its contract: its parts, joined by `|`, are the word of the register's table.
-- Assumes nothing.
use Rattle.std.proofs.Common.{◌≡◌, rules}
use Rattle.field.proofs.Laws.{or_table, masked, flagged, flagged_low, done, ◌▹◌}
use Rattle.interrupt.specs.Interrupt.{is_on, is_leave, told, lines}
use Rattle.interrupt.proofs.word.Goals as goal

pub returns : goal.returns
returns c =
    let q = c.args.q in
    let on : c.eq-on.result ≡ is_on q.enable = search rules in
    let leave : c.eq-leave.result ≡ is_leave q.enable = search rules in
    rw (on, leave)
    (or_table {ps = lines (told q)}
    (flagged_low (is_on q.enable) ▹ flagged q.clear tt ▹ flagged q.trigger tt ▹ masked tt ▹ masked tt ▹ flagged q.trigger tt ▹ masked tt ▹ flagged q.write_back tt ▹ flagged (is_leave q.enable) tt ▹ done)
    tt)
