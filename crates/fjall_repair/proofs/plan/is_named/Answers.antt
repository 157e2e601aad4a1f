use Rattle.fjall_repair.proofs.Listings as Listings
use Rattle.fjall_repair.proofs.plan.is_named.Goals as goal

pub returns-else-id-eq0 : goal.returns-else-id-eq0
returns-else-id-eq0 c = Listings.is_named c.args.living.now c.args.id c.lives.result c.if-id-eq0.false c.lives.ensures
