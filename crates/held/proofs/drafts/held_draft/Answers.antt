use Rattle.std.proofs.Common.{◌≡◌, not, ◌&&◌, ◌==◌, ◌∙◌, arith, rules, refl}
use mathlib.Core.Path.{fun_ext}
use Rattle.std.proofs.Math.Bool.{and_comm}
use Rattle.std.proofs.lemmas.Bool.Decides.{nat_tests}
use Rattle.table.specs.Kinds.{has}
use Rattle.language.specs.Tables.{full, without_else}
use Rattle.held.specs.declared.drafts.TheConstants.{ELSE}
use Rattle.held.proofs.drafts.held_draft.Goals as goal

pub returns : goal.returns
returns c =
    let all : has c.full-full.result ≡ full = fun_ext (λ k. grind (arith, nat_tests, c.full-full.ensures k)) in
    let rest : has c.without.result ≡ without_else = fun_ext (λ k. c.without.ensures k ∙ and_comm (not (k == ELSE)) (has c.full-full.result k) ∙ (λ i. all i k && not (k == ELSE))) in
    record {
      nonterminals = refl;
      kinds = refl;
      derives = rw (c.in_ok-productions.ensures.items, c.production.ensures, c.production-2.ensures, c.production-3.ensures, c.production-4.ensures, all, rest, c.in_ok-vec.ensures.items, c.in_ok-vec-2.ensures.items, c.in_ok-vec-3.ensures.items, c.new.ensures.items);
      spells = search rules;
    }
