use Rattle.cache_cli.proofs.Composing.{still_sound, opens_files, reads_on}
use Rattle.cache_cli.proofs.laws.runs_compose.Goals as goal

pub returns-clause-begins : goal.returns-clause-begins
returns-clause-begins g c = λ from to next course turn image holds start end left same.
    still_sound (g.H.Host.state from) (g.H.Host.state to) course ((g.H.Host.state to).said turn) image (g.H.Host.state next) (holds.each turn image start end left) same

pub returns-clause-opens : goal.returns-clause-opens
returns-clause-opens g c = λ next given image plain same opens. opens_files image (g.H.Host.state next).files given plain same opens

pub returns-clause-reads : goal.returns-clause-reads
returns-clause-reads g c = λ next to again course said image plain fits same opens.
    reads_on again course (g.H.Host.state to) said image (g.H.Host.state next).files plain fits same opens
