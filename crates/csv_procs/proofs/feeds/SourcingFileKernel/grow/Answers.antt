use Rattle.csv_procs.proofs.Imports.{None, arith, lists_in, refl, rules, subst, sym, ◌≡◌}
use Rattle.csv_procs.proofs.feeds.SourcingFileKernel.grow.Goals as goal

pub returns-clause-grows : goal.returns-clause-grows
returns-clause-grows g c =
    let valid : c.in-Paths.list.bad_line ≡ None = search rules in
    record {
      is_list = sym (subst (λ s. lists_in g.S.Sourced.lists s ≡ g.S.Sourced.lists) c.in-Paths.is
          c.args.self.now.read);
      before = c.in-Paths.list;
      old_is = c.in-Paths.is;
      new_is = refl;
      valid = valid;
      ungrown = c.if-list.false;
      names_path = omega (arith, c.len.ensures, c.if-len-eq0.false);
      is = c.in_ok-growth.ensures;
    }
