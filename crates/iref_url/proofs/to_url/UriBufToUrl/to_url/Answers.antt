use Rattle.std.proofs.Common.{rules}
use Rattle.iref_url.proofs.to_url.UriBufToUrl.to_url.Goals as goal

pub returns : goal.returns
returns g c = search rules
