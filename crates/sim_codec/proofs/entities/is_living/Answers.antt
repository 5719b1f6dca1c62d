-- The closure gives the id of a row, and the ids ascend.
use Rattle.sim_codec.proofs.{Common.template_in, Common.◌∙◌, Halves.found, Halves.missing, Halves.no_key}
use Rattle.sim_codec.proofs.Common.{ℕ, Bool, List, [], get_or, is_some, answers_always, ap, get_or_default, id_in, passes, ranked, rules, sym, Template}

-- the template of this number has health
abbrev lives : List Template → ℕ → Bool
lives = passes (λ (t : Template). is_some t.health)

pub returns-in-Ok : Rattle.sim_codec.proofs.entities.is_living.Goals.returns-in-Ok
returns-in-Ok c =
    let by_id = c.in-Ok.ensures.position id_in (answers_always _ _ _ (λ f a r g called. search rules)) in
    let x : List ℕ = get_or c.args.entities.now c.in-Ok.at [] in
    let same = get_or_default c.args.entities.now c.in-Ok.at [] x c.in-Ok.ensures.bound in
    found id_in (λ bytes. lives c.args.templates.now (template_in bytes)) c.args.entities.now c.args.id c.in-Ok.at x c.has.result c.requires
    c.in-Ok.ensures.bound same (λ d. ranked _ c.args.id _ (sym (by_id d)))
    (c.has.ensures ∙ ap (lives c.args.templates.now) c.template_of.ensures ∙ ap (λ (bytes : List ℕ). lives c.args.templates.now (template_in bytes)) same)

pub returns-in-Err : Rattle.sim_codec.proofs.entities.is_living.Goals.returns-in-Err
returns-in-Err c =
    let by_id = c.in-Err.ensures.position id_in (answers_always _ _ _ (λ f a r g called. search rules)) in
    missing id_in (λ bytes. lives c.args.templates.now (template_in bytes)) c.args.entities.now c.args.id
    (no_key id_in c.args.entities.now c.args.id c.in-Err.field-0 c.requires c.in-Err.ensures.bound by_id)
