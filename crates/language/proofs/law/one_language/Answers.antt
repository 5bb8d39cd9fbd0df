use Rattle.language.proofs.Agreement.{law}
use Rattle.language.proofs.law.one_language.Goals as goal

pub returns : goal.returns
returns g c = law (g.D.Domain.meaning c.args.domain.now)
