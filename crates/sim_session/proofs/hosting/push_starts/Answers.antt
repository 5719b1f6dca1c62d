-- The line of one client more stands behind those so far.
use Rattle.sim_session.proofs.{Beginning.start_shown, Beginning.starts_more, TextCommon.start_events, TextCommon.start_lines}
use Rattle.sim_session.proofs.TextCommon.{◌+◌, ◌<◌, [], Some, string_bytes, after, append_assoc, arith, digest, life_of, lines_of, rules, seen_in}

pub loop-before-preserved : Rattle.sim_session.proofs.hosting.push_starts.Goals.loop-before-preserved
loop-before-preserved g c =
    let session = c.args.session.now in
    let setup = session.setup.now in
    let n = c.loop-before.before in
    let lt : n < c.args.clients = search rules in
    let lives = c.requires.opened.lives (n + 1) (omega arith) (omega (arith, lt, c.requires.clients)) in
    let shown = start_shown setup c.args.clients n (life_of (seen_in session).lives (n + 1)) lt lives in
    let is = c.client.ensures.life in
    let same = c.client.ensures.setup in
    let pushed = c.in_ok-push_start.ensures in
    let before = c.loop-before.invariant in
    let more = starts_more setup n in
    let split = append_assoc (string_bytes c.args.text.now) (lines_of (start_events setup n)) (start_lines (n + 1) (Some (digest setup (after setup [])))) in
    cc
