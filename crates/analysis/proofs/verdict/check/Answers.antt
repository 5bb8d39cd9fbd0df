use Rattle.std.proofs.Common.{◌≡◌, List, Err, Result, MatchResult, sym, subst, rules}
use Rattle.domain.specs.Meaning.{Classes}
use Rattle.table.specs.Grammar.{Production, grammar}
use Rattle.analysis.specs.declared.faults.CheckFault.{CheckFault}
use Rattle.analysis.specs.declared.faults.CheckFault.TheVariants.{TwoClash}
use Rattle.analysis.specs.Verdict.{Passes, Refused, TooManyClasses, refusal, values}
use Rattle.analysis.proofs.verdict.check.Goals as goal

told : (c : Classes) (g : List Production) (f : CheckFault) → TooManyClasses c f → Refused c g (refusal f) (values f)
told c g f tells = subst (λ x. Refused c g (refusal x) (values x)) (sym tells.1) (Refused.many_classes tells.0)

many : (c : Classes) (g : List Production) (r : Result (Unit {0}) CheckFault) (f : CheckFault) → TooManyClasses c f → r ≡ Err f
    → MatchResult r (λ _. Passes c g) (λ e. Refused c g (refusal e) (values e))
many c g r f tells is = subst (λ s. MatchResult s (λ _. Passes c g) (λ e. Refused c g (refusal e) (values e))) (sym is) (told c g f tells)

pub returns-in_err-domain : goal.returns-in_err-domain
returns-in_err-domain g c =
    many (g.D.Domain.meaning c.args.domain.now).classes (grammar c.args.table.now.draft) c.from_residual.result c.in_err-domain.field-0.0 c.in_err-domain.ensures (search rules)

pub returns-in-Some : goal.returns-in-Some
returns-in-Some g c =
    let clash = c.in-Some.clash in
    subst (λ d. Refused (g.D.Domain.meaning d).classes (grammar c.args.table.now.draft) 11 (values (TwoClash clash))) c.in_ok-domain.ensures
    (Refused.first_clash (c.in_ok-domain.domain.few) c.in-Some.ensures.clashes c.in-Some.ensures.first)

pub returns-in-None : goal.returns-in-None
returns-in-None g c =
    subst (λ d. Passes (g.D.Domain.meaning d).classes (grammar c.args.table.now.draft)) c.in_ok-domain.ensures
    (c.in_ok-domain.domain.few, c.in-None.ensures)
