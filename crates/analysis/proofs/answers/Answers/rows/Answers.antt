use Rattle.std.proofs.Common.{◌≡◌, true, get_or, Some, None, subst}
use Rattle.analysis.proofs.answers.Answers.rows.Goals as goal

pub returns : goal.returns
returns g c =
    let same : c.requires.place ≡ c.unwrap-place.result = cc in
    (c.args.self.now.known c.args.test c.unwrap-place.result c.unwrap-place.ensures).somewhere
    (subst (λ p. get_or c.args.self.now.ever p None ≡ Some true) same c.requires.told)
