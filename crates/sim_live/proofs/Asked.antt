-- What is answered to what a line asks for, of its parts.
use Rattle.sim_live.specs.{declared.line.Line.{Line, TheVariants.{Look, Other, Step}}, Live.{answer_to, steps_with}, Shown.look_text}
use Rattle.{sim_plain_session.specs.Sessions.{events, session}, sim_session.specs.Laws.lines_of, sim_talk.specs.Marks.{ok_line, refused_line}}
use Rattle.std.proofs.Common.{ap, append_assoc, arith, length, length-append, List, sym, ℕ, [], ◌++◌, ◌+◌, ◌∙◌, ◌∷◌, ◌≡◌}
use Rattle.{sim_base.specs.declared.setup.Setup.Setup, sim_base.specs.declared.step.Step.Step as AnyStep, sim_live.specs.declared.look.Look.Look as AnyLook}

-- a step, by the lines of its events and its number
pub step_told : (setup : Setup) (clients : ℕ) (steps : List AnyStep) (x : AnyStep) (made : ℕ) (l : Line) (old one two : List ℕ) → l ≡ Step x
    → made ≡ length steps
    → one ≡ old ++ lines_of (events setup (session setup clients steps) x) → two ≡ one ++ ok_line (made + 1) → two ≡ old ++ answer_to setup clients steps l
step_told setup clients steps x made l old one two is counted first second =
    let lines : List ℕ = lines_of (events setup (session setup clients steps) x) in
    second ∙ ap (λ (t : List ℕ). t ++ ok_line (made + 1)) first ∙ append_assoc old lines (ok_line (made + 1))
    ∙ ap (λ (n : ℕ). old ++ (lines ++ ok_line (n + 1))) counted ∙ ap (λ (line : Line). old ++ answer_to setup clients steps line) (sym is)

-- a look, by what it shows and the number of the last step
pub look_told : (setup : Setup) (clients : ℕ) (steps : List AnyStep) (x : AnyLook) (made : ℕ) (l : Line) (old one two : List ℕ) → l ≡ Look x
    → made ≡ length steps
    → one ≡ old ++ look_text setup (session setup clients steps) x → two ≡ one ++ ok_line made → two ≡ old ++ answer_to setup clients steps l
look_told setup clients steps x made l old one two is counted first second =
    let shown : List ℕ = look_text setup (session setup clients steps) x in
    second ∙ ap (λ (t : List ℕ). t ++ ok_line made) first ∙ append_assoc old shown (ok_line made)
    ∙ ap (λ (n : ℕ). old ++ (shown ++ ok_line n)) counted ∙ ap (λ (line : Line). old ++ answer_to setup clients steps line) (sym is)

-- anything else, by the number of the step that it is not
pub other_told : (setup : Setup) (clients : ℕ) (steps : List AnyStep) (made : ℕ) (l : Line) (old new : List ℕ) → l ≡ Other → made ≡ length steps
    → new ≡ old ++ refused_line (made + 1) → new ≡ old ++ answer_to setup clients steps l
other_told setup clients steps made l old new is counted told =
    told ∙ ap (λ (n : ℕ). old ++ refused_line (n + 1)) counted ∙ ap (λ (line : Line). old ++ answer_to setup clients steps line) (sym is)

-- how many steps there are then
pub step_counted : (steps : List AnyStep) (x : AnyStep) (made : ℕ) (l : Line) → l ≡ Step x → made ≡ length steps → made + 1 ≡ length (steps_with steps l)
step_counted steps x made l is counted =
    let more : made + 1 ≡ length (steps ++ x ∷ []) = omega (arith, counted, length-append steps (x ∷ [])) in
    more ∙ ap (λ (line : Line). length (steps_with steps line)) (sym is)

pub look_counted : (steps : List AnyStep) (x : AnyLook) (made : ℕ) (l : Line) → l ≡ Look x → made ≡ length steps → made ≡ length (steps_with steps l)
look_counted steps x made l is counted = counted ∙ ap (λ (line : Line). length (steps_with steps line)) (sym is)

pub other_counted : (steps : List AnyStep) (made : ℕ) (l : Line) → l ≡ Other → made ≡ length steps → made ≡ length (steps_with steps l)
other_counted steps made l is counted = counted ∙ ap (λ (line : Line). length (steps_with steps line)) (sym is)
