-- Where bytes stand for a state, it is the one that was read.
use Rattle.sim_codec.proofs.{Common.{err_from_is_err_and, rules}, Standing.{IsRead, no_other, not_memory, refused_for, stands_by, unread}}
use Rattle.sim_codec.proofs.loading.standing.Goals as goal

pub returns-in_err-version : goal.returns-in_err-version
returns-in_err-version c =
    let p = err_from_is_err_and c.from_residual.result c.from_residual.ensures.1 in
    record {
      head = search rules;
      ok = search rules;
      err = rw (p.1, p.2) (refused_for c.args.setup.now c.args.bytes.now c.in_err-version.field-0.0 c.in_err-version.ensures);
      no_memory = rw (p.1, p.2) (not_memory c.args.setup.now c.args.bytes.now c.in_err-version.field-0.0 c.in_err-version.ensures);
    }

pub returns-in_err-stored : goal.returns-in_err-stored
returns-in_err-stored c =
    let p = err_from_is_err_and c.from_residual-in_err-stored.result c.from_residual-in_err-stored.ensures.1 in
    let head = c.in_ok-version.ensures in
    let version = c.in_ok-version.version in
    let read : IsRead version c.args.bytes.now c.in_ok-version.rest.now = record { by = head.1; behind = head.2 } in
    record {
      head = search rules;
      ok = search rules;
      err = rw (p.1, p.2)
          (head.0, λ s. unread version c.args.setup.now c.args.bytes.now c.in_ok-version.rest.now s c.requires read c.in_err-stored.ensures);
      no_memory = search rules;
    }

pub returns-then-not-is_good : goal.returns-then-not-is_good
returns-then-not-is_good c =
    let head = c.in_ok-version.ensures in
    let version = c.in_ok-version.version in
    let read : IsRead version c.args.bytes.now c.in_ok-version.rest.now = record { by = head.1; behind = head.2 } in
    record {
      head = search rules;
      ok = search rules;
      err = (
        head.0,
        no_other version c.args.setup.now c.args.bytes.now c.in_ok-version.rest.now c.in_ok-stored.stored c.is_good.result c.requires read
            c.in_ok-stored.ensures c.is_good.ensures c.if-not-is_good.true,
      );
      no_memory = search rules;
    }

pub returns : goal.returns
returns c = record {
  head = search rules;
  ok = stands_by c.in_ok-version.version c.args.setup.now c.args.bytes.now c.in_ok-version.rest.now c.in_ok-stored.stored c.in_ok-stored.ensures
      (c.is_good.ensures.0 c.if-not-is_good.false);
  err = search rules;
  no_memory = search rules;
}
