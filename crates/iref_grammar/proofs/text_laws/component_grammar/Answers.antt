use Rattle.iref_grammar.proofs.HostRuleLemmas.{Decides-is_host, Decides-is_ipv4_bytes, Decides-is_ipv6_bytes, Decides-is_ipvfuture_bytes, Decides-is_ip_literal_bytes}
use Rattle.iref_grammar.proofs.LeafLemmas.{Decides-is_fragment, Decides-is_query, Decides-is_reg_name, Decides-is_segment, Decides-is_user_info}
use Rattle.iref_grammar.proofs.PartRuleLemmas.{Decides-is_port_bytes, Decides-is_scheme_bytes}
use Rattle.iref_grammar.proofs.{PathTextLemmas.{Decides-is_path}, PctLemmas.{Decides-is_pct_str}}
use Rattle.iref_grammar.proofs.text_laws.component_grammar.Goals as goal

pub returns : goal.returns
returns g c =
    let set = g.S.CharSet.tests in
    let above = g.met.S.CharSet.above_ascii in
    record {
      scheme = Decides-is_scheme_bytes;
      user_info = Decides-is_user_info set above;
      reg_name = Decides-is_reg_name set above;
      ipv4 = Decides-is_ipv4_bytes;
      ipv6 = Decides-is_ipv6_bytes;
      ipvfuture = Decides-is_ipvfuture_bytes;
      ip_literal = Decides-is_ip_literal_bytes;
      host = Decides-is_host set above;
      port = Decides-is_port_bytes;
      segment = Decides-is_segment set above;
      path = Decides-is_path set above;
      query = Decides-is_query set above;
      fragment = Decides-is_fragment set above;
      pct_str = Decides-is_pct_str;
    }
