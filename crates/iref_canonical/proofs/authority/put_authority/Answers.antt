use Rattle.std.proofs.Common.{◌++◌, arith}
use Rattle.iref_grammar.specs.Authority.{read_authority}
use Rattle.iref_canonical.proofs.PutAuthorityLemmas.{authority-spelled, host_part, port_part, user_info_part}
use Rattle.iref_canonical.proofs.authority.put_authority.Goals as goal

pub put_port-requires : goal.put_port-requires
put_port-requires g c =
    let parts = c.split_parts-parts.result in
    let spelled = authority-spelled c.args.raw parts (read_authority c.args.text.now) c.split_parts-parts.ensures in
    grind (arith, g.met.O.Backward.fits_both c.args.out.now (user_info_part c.args.raw parts ++ host_part c.args.raw parts) (port_part c.args.raw parts), spelled)

pub put_host-requires : goal.put_host-requires
put_host-requires g c =
    let parts = c.split_parts-parts.result in
    let spelled = authority-spelled c.args.raw parts (read_authority c.args.text.now) c.split_parts-parts.ensures in
    let rest = g.met.O.Backward.fits_both c.args.out.now (user_info_part c.args.raw parts ++ host_part c.args.raw parts) (port_part c.args.raw parts) in
    grind (arith, rest, g.met.O.Backward.fits_both c.put_port.new.out (user_info_part c.args.raw parts) (host_part c.args.raw parts), spelled)

pub put_user_info-requires : goal.put_user_info-requires
put_user_info-requires g c =
    let parts = c.split_parts-parts.result in
    let spelled = authority-spelled c.args.raw parts (read_authority c.args.text.now) c.split_parts-parts.ensures in
    let rest = g.met.O.Backward.fits_both c.args.out.now (user_info_part c.args.raw parts ++ host_part c.args.raw parts) (port_part c.args.raw parts) in
    grind (arith, rest, g.met.O.Backward.fits_both c.put_port.new.out (user_info_part c.args.raw parts) (host_part c.args.raw parts), spelled)

pub returns : goal.returns
returns g c =
    let parts = c.split_parts-parts.result in
    let spelled = authority-spelled c.args.raw parts (read_authority c.args.text.now) c.split_parts-parts.ensures in
    let rest = g.met.O.Backward.after_both c.args.out.now (user_info_part c.args.raw parts ++ host_part c.args.raw parts) (port_part c.args.raw parts) in
    grind (arith, rest, g.met.O.Backward.after_both c.put_port.new.out (user_info_part c.args.raw parts) (host_part c.args.raw parts), spelled)
