use Rattle.sim_merge.proofs.{Common.{ap, bytes_eq, contains_text, false, list_any, not, sym, ◌&&◌, ◌∙◌, ◌≡◌}, LackingLemmas.{lacking_put, lacking_rest}}

pub returns-else-take_word-clause-found : Rattle.sim_merge.proofs.words.include.Goals.returns-else-take_word-clause-found
returns-else-take_word-clause-found c = λ more tells.
    let absent : contains_text c.args.lacking.now c.args.word ≡ false =
    ap (contains_text c.args.lacking.now) (sym c.as_str.ensures) ∙ sym c.take_word.ensures.found ∙ c.if-take_word.false in
    lacking_put (contains_text c.args.lacking.now) c.args.word false more c.args.found.now absent tells

pub returns-else-take_word-clause-lacking : Rattle.sim_merge.proofs.words.include.Goals.returns-else-take_word-clause-lacking
returns-else-take_word-clause-lacking c = λ more tells other.
    let test = contains_text c.args.lacking.now in
    let word = c.args.word in
    let found = c.args.found.now in
    let absent : contains_text c.args.lacking.now c.args.word ≡ false =
    ap (contains_text c.args.lacking.now) (sym c.as_str.ensures) ∙ sym c.take_word.ensures.found ∙ c.if-take_word.false in
    lacking_rest test (contains_text c.take_word.new.set) word more found tells
    (λ o. c.take_word.ensures.left o ∙ ap (λ x. contains_text c.args.lacking.now o && not (bytes_eq o x)) c.as_str.ensures) other
    ∙ ap (λ words. list_any (bytes_eq other) more && not (list_any (bytes_eq other) words)) (sym (lacking_put test word false more found absent tells))
