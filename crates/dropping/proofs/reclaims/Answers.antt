use Rattle.dropping.proofs.Leaving.{since_both}
use Rattle.dropping.proofs.reclaims.Goals as goal

pub returns : goal.returns
returns g c = λ old mid new number deleted synced may deletes syncs.
    since_both (g.H.Host.state old) (g.H.Host.state mid) (g.H.Host.state new) number may deletes.turn.images syncs.turn.images
