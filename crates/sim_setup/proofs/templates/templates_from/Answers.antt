use Rattle.{sim_setup.proofs.TemplateLimits.more_read, std.proofs.Common.IfSome, std.proofs.lemmas.List.drop_more, std.proofs.lemmas.List.Elements.All-push}
use Rattle.sim_setup.proofs.Common.{next_template, numbered, origin_of, rules, Source, subst, sym, Template, template_at, ◌∙◌}
use Rattle.sim_setup.proofs.Common.{◌≡◌, ◌+◌, List, [], ◌∷◌, ◌++◌, map, length, drop, Some, Option, ap, arith, IsTemplate, length-map, length_push, name_in}

pub loop-number-preserved : Rattle.sim_setup.proofs.templates.templates_from.Goals.loop-number-preserved
loop-number-preserved c =
    let l = c.loop-number in
    let names = c.args.library.now.names in
    let roots = c.args.library.now.roots in
    let source = c.index-sources-number.result in
    let template = c.in-Some.template in
    let rest : List Source = drop (l.number + 1) c.args.sources.now in
    let next : drop l.number c.args.sources.now ≡ source ∷ rest = drop_more c.args.sources.now l.number source c.loop-number-test.true ∙
    ap (λ (s : Source). s ∷ rest) (sym c.index-sources-number.is) in
    let read : next_template names roots l.found.items (origin_of source) ≡ Some template =
    ap (λ n. template_at names roots n (origin_of source)) l.invariant.count ∙ sym c.in_ok-template.ensures.value ∙ c.in-Some.is in
    let here = subst (λ (ss : List Source). numbered (next_template names roots) l.found.items (map origin_of ss) ≡ numbered (next_template names roots) []
    (map origin_of c.args.sources.now)) next l.invariant.same in
    let sized : length names ≡ length c.args.sources.now = ap length c.requires.names ∙ length-map (map origin_of c.args.sources.now) name_in ∙
    length-map c.args.sources.now origin_of in
    let limits : IsTemplate (length names) template = subst (λ (o : Option Template). IfSome o (IsTemplate (length names))) c.in-Some.is
    c.in_ok-template.ensures.limits in
    let pushed : c.push.new.self.items ≡ l.found.items ++ template ∷ [] = search rules in
    record {
      same = rw pushed (more_read (next_template names roots) l.found.items (origin_of source) template (map origin_of rest) _ read here);
      count = rw pushed (omega (arith, length_push l.found.items template, l.invariant.count));
      limits = rw pushed (All-push (IsTemplate (length c.args.sources.now)) l.found.items template l.invariant.limits
          (subst (λ n. IsTemplate n template) sized limits));
    }
